-- Lemmas on what is known to be read and written over several calls.
use Rattle.std.proofs.Common.{◌≡◌, ℕ, ◌+◌, ◌≤◌, List, [], ◌++◌, length, take, drop, Option, Some, None, refl, ap, sym, ◌∙◌, subst, arith, append_assoc, length-append, length-drop, append-nil}
use Rattle.std.proofs.Math.Seq.{take-add, take-length}
use Rattle.cgf_jobs.proofs.Names.{Appends, AppendsFront, Consumes, Keeps, TakesPiece, TakesUpTo}
use Rattle.gw_base.specs.Faults.{Rose}

-- Writing.

pub appends_two : (a b c : Option (List ℕ)) (xs ys : List ℕ) → Appends a b xs → Appends b c ys → Appends a c (xs ++ ys)
appends_two None b c xs ys h k = tt
appends_two (Some us) None c xs ys h k = absurd h
appends_two (Some us) (Some vs) None xs ys h k = absurd k
appends_two (Some us) (Some vs) (Some ws) xs ys h k = k ∙ ap (λ (l : List ℕ). l ++ ys) h ∙ append_assoc us xs ys

pub appends_more : (a b c : Option (List ℕ)) (octets : List ℕ) (at count : ℕ) → Appends a b (take at octets) → Appends b c (take count (drop at octets)) →
    Appends a c (take (at + count) octets)
appends_more a b c octets at count h k = rw take-add
    (appends_two a b c (take at octets) (take count (drop at octets)) h k)

-- nothing was written of these octets yet
pub appends_none : (a : Option (List ℕ)) (octets : List ℕ) → Appends a a (take 0 octets)
appends_none None octets = tt
appends_none (Some xs) octets = sym (append-nil xs)

-- all of these octets were written
pub appends_all : (a b : Option (List ℕ)) (octets : List ℕ) (at : ℕ) → at ≤ length octets → length octets ≤ at → Appends a b (take at octets) → Appends a b octets
appends_all a b octets at h more k =
    let whole : at ≡ length octets = omega (arith, h, more) in
    subst (Appends a b) (ap (λ n. take n octets) whole ∙ take-length octets) k

pub front_more : (a b c : Option (List ℕ)) (octets : List ℕ) (at : ℕ) → at ≤ length octets → Appends a b (take at octets) → AppendsFront b c (drop at octets) →
    AppendsFront a c octets
front_more a b c octets at h k front =
    (at + front.0, omega (arith, h, front.1, length-drop at octets), appends_more a b c octets at front.0 k front.2)

-- Reading.

pub consumes_more : (a b c : Option (List ℕ)) (xs ys : List ℕ) → Consumes a b xs → Consumes b c ys → Consumes a c (xs ++ ys)
consumes_more None b c xs ys h k = tt
consumes_more (Some us) None c xs ys h k = absurd h
consumes_more (Some us) (Some vs) None xs ys h k = absurd k
consumes_more (Some us) (Some vs) (Some ws) xs ys h k = h ∙ ap (λ b. xs ++ b) k ∙ sym (append_assoc xs ys ws)

pub consumes_none : (a : Option (List ℕ)) → Consumes a a []
consumes_none None = tt
consumes_none (Some xs) = refl

pub consumes_piece : (a b c : Option (List ℕ)) (before after : List ℕ) (count : ℕ) → Consumes a b before → TakesPiece b c before after count → Consumes a c after
consumes_piece a b c before after count h piece = subst (Consumes a c) (sym piece.2) (consumes_more a b c before piece.0 h piece.1)

-- Faults.

-- a count that stood still, and then rose
pub rose_more : (before middle after : ℕ) → middle ≡ before → Rose middle after → Rose before after
rose_more before middle after h rose = subst (λ (n : ℕ). Rose n after) h rose

-- a call that failed took nothing
pub takes_kept : (a b : Option (List ℕ)) (most : ℕ) → Keeps a b → TakesUpTo most a b
takes_kept None b most h = ([], omega arith, tt)
takes_kept (Some xs) None most h = absurd h
takes_kept (Some xs) (Some ys) most h = ([], omega arith, sym h)

pub takes_piece : (a b : Option (List ℕ)) (most : ℕ) (piece : List ℕ) → length piece ≤ most → Consumes a b piece → TakesUpTo most a b
takes_piece a b most piece h k = (piece, h, k)

-- the text so far was taken, and then no more than that
pub takes_more : (a b c : Option (List ℕ)) (text : List ℕ) (more most : ℕ) → length text + more ≤ most → Consumes a b text → TakesUpTo more b c → TakesUpTo most a c
takes_more a b c text more most h k rest =
    (text ++ rest.0, omega (arith, h, rest.1, length-append text rest.0), consumes_more a b c text rest.0 k rest.2)

pub takes_read : (a b : Option (List ℕ)) (text : List ℕ) (most : ℕ) → length text ≤ most → Consumes a b text → TakesUpTo most a b
takes_read a b text most h k = (text, h, k)

pub takes_none : (a : Option (List ℕ)) (most : ℕ) → TakesUpTo most a a
takes_none None most = ([], omega arith, tt)
takes_none (Some xs) most = ([], omega arith, refl)
