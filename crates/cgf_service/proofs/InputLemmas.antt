-- What is read of an input piece by piece, and how many files are made of runs.
use Rattle.std.proofs.Common.{◌≡◌, ℕ, suc, ◌+◌, List, [], ◌∷◌, ◌++◌, inl, inr, length, take, take_all, Option, Some, None, refl, ap, sym, ◌∙◌, append_assoc, append-nil}
use Rattle.cgf_service.proofs.Names.{Appends, Consumes, files_from, IsRead}
use Rattle.cdr_file.specs.CdrFile.{FileSettings}
use Rattle.file_rotate.specs.Division.{ClosedRun}

-- nothing was written of these octets yet
pub appends_none : (a : Option (List ℕ)) (octets : List ℕ) → Appends a a (take 0 octets)
appends_none None octets = tt
appends_none (Some xs) octets = sym (append-nil xs)

pub appends_two : (a b c : Option (List ℕ)) (xs ys : List ℕ) → Appends a b xs → Appends b c ys → Appends a c (xs ++ ys)
appends_two None b c xs ys h k = tt
appends_two (Some us) None c xs ys h k = absurd h
appends_two (Some us) (Some vs) None xs ys h k = absurd k
appends_two (Some us) (Some vs) (Some ws) xs ys h k = k ∙ ap (λ (l : List ℕ). l ++ ys) h ∙ append_assoc us xs ys

pub consumes_none : (a : Option (List ℕ)) → Consumes a a []
consumes_none None = tt
consumes_none (Some xs) = refl

pub consumes_more : (a b c : Option (List ℕ)) (xs ys : List ℕ) → Consumes a b xs → Consumes b c ys
    → Consumes a c (xs ++ ys)
consumes_more None b c xs ys h k = tt
consumes_more (Some us) None c xs ys h k = absurd h
consumes_more (Some us) (Some vs) None xs ys h k = absurd k
consumes_more (Some us) (Some vs) (Some ws) xs ys h k = h ∙ ap (λ b. xs ++ b) k ∙ sym (append_assoc xs ys ws)

front_taken : (xs ys : List ℕ) → take (length xs) (xs ++ ys) ≡ xs
front_taken [] ys = refl
front_taken (x ∷ xs) ys = ap (λ (l : List ℕ). x ∷ l) (front_taken xs ys)

-- what was read of an input is its first octets, as many as are read at most
pub read_front : (most : ℕ) (octets read : List ℕ) (rest : Option (List ℕ)) → IsRead most (Some octets) rest read
    → read ≡ take most octets
read_front most octets read None r = absurd r.consumed
read_front most octets read (Some rest) r =
    elim r.whole [
      | inl long ↦ sym (ap (λ (n : ℕ). take n octets) (sym long) ∙ ap (λ (l : List ℕ). take (length read) l) r.consumed
          ∙ front_taken read rest)
      | inr none ↦ sym (ap (λ (l : List ℕ). take most l) (r.consumed ∙ ap (λ (x : List ℕ). read ++ x) none
          ∙ append-nil read) ∙ take_all most read r.bounded)
    ]

-- each run makes one file
pub length-files_from : (settings : FileSettings) (s sequence : ℕ) (runs : List (ClosedRun (List ℕ)))
    → length (files_from settings s sequence runs) ≡ length runs
length-files_from settings s sequence [] = refl
length-files_from settings s sequence (run ∷ runs) =
    ap (λ (n : ℕ). suc n) (length-files_from settings s (sequence + 1) runs)
