-- What writes do to the file that is being written.
use Rattle.std.proofs.Common.{◌≡◌, ◌≢◌, ℕ, max, ◌+◌, ◌≤◌, ◌<◌, Bool, if◌then◌else◌, List, [], ◌∷◌, ◌++◌, length, Option, None, Some, Result, OnOk, refl, ap, ◌∙◌, arith, append_assoc, length-append}
use Rattle.file_writer.proofs.Names.{All-cons, All-nil, append-nil, appended, begun, body_behind, body_of, Call, cdr_octets, drop-append-le, drop_all, Ending, eq-eqb, FiledKind, FiledRecord, FileName, Ghosts, greatest_in, grown_facts, HasLength, header_length, IsBegun, IsFresh, IsOpenAt, lt-leb, Makes, number_in, RunFacts, sealed_as, SealedFile, StepsAt, synced, take-length, TakesWrite, unless_sealed, UnsealedFile, written}
use Rattle.area_disk.specs.Disk.{overwritten}
use Rattle.cdr_file.specs.CdrFile.{cdr_length}
use Rattle.cdr_file.specs.Laws.{length-cdr_octets}

-- octets written at the end
overwritten-end : (xs from : List ℕ) → overwritten xs (length xs) from ≡ xs ++ from
overwritten-end xs from = search (arith, take-length, drop_all, append-nil)

pub written_end : (at : ℕ) (from : List ℕ) (u : Option UnsealedFile) → HasLength at u → written at from u
    ≡ appended from u
written_end at from u h = grind (arith, overwritten-end)

appended_both : (xs ys : List ℕ) (u : Option UnsealedFile) → appended ys (appended xs u) ≡ appended (xs ++ ys) u
appended_both xs ys u = grind (arith, append_assoc)

longer : (at n m : ℕ) (from : List ℕ) (u : Option UnsealedFile) → length from ≡ m → HasLength at u
    → HasLength (at + m) (appended from u)
longer at n m from u e h = grind (arith, length-append)

-- behind a first write at the end
pub has_longer : (at m : ℕ) (from : List ℕ) (old new : Option UnsealedFile) → length from ≡ m → HasLength at old
    → new ≡ written at from old → HasLength (at + m) new
has_longer at m from old new e h same = rw (same ∙ written_end at from old h) (longer at 0 m from old e h)

pub takes_end : (at : ℕ) (u : Option UnsealedFile) → HasLength at u → TakesWrite at u
takes_end at u h = grind arith

-- two writes, one behind the other
pub written_both : (at m : ℕ) (xs ys : List ℕ) (old mid new : ℕ → Option UnsealedFile) (s : ℕ) → length xs ≡ m
    → HasLength at (old s)
    → StepsAt s (written at xs) old mid → StepsAt s (written (at + m) ys) mid new
    → StepsAt s (appended (xs ++ ys)) old new
written_both at m xs ys old mid new s e h first next =
    search (arith, written_end, has_longer, appended_both, first.others)

pub on_ok : {T E P Q : Type 0} (r : Result T E) → (P → Q) → OnOk r P → OnOk r Q
on_ok r f p = grind arith

abbrev pub named_file : FileName → List ℕ → SealedFile
named_file own octets = record { name = own; octets = octets }

-- the header is written again, and the file is synced
pub sealed_of : (name : FileName) (kind : FiledKind) (n : ℕ) (header : List ℕ) (u v w : Option UnsealedFile)
    → IsOpenAt name kind n u → length header ≡ header_length kind
    → v ≡ written 0 header u → w ≡ synced v
    → sealed_as w ≡ record { name = name; octets = header ++ body_of kind u } ∷ []
sealed_of name kind n header u v w h long e f = grind arith

-- ---- names

pub own_number : (s n : ℕ) → number_in s (record { stream = s; sequence = n }) ≡ n
own_number s n = ap (λ (b : Bool). if b then n else 0) (eq-eqb s s refl)

fresh_above : (s n : ℕ) (files : List SealedFile) → greatest_in s files < n
    → IsFresh (record { stream = s; sequence = n }) files
fresh_above s n [] h = All-nil (λ (f : SealedFile). f.name ≢ record { stream = s; sequence = n })
fresh_above s n (f ∷ files) h = search (arith, All-cons, own_number, (fresh_above s n files (omega (arith, h))))

-- no file is sealed that has the next number
pub is_fresh : (s closed sealed : ℕ) (files : List SealedFile) → greatest_in s files ≤ max closed sealed
    → sealed < closed + 1
    → IsFresh (record { stream = s; sequence = closed + 1 }) files
is_fresh s closed sealed files h k = fresh_above s (closed + 1) files (omega (arith, h, k))

-- ---- a record more

-- a header at the front of a file that was begun
pub opened_at : (name : FileName) (kind : FiledKind) (header : List ℕ) (old mid new : Option UnsealedFile)
    → mid ≡ begun name old → new ≡ written 0 header mid → length header ≡ header_length kind
    → IsOpenAt name kind 0 new
opened_at name kind header old mid new e f long =
    rw (f ∙ ap (written 0 header) e) (refl, omega (arith, ap length (overwritten-end [] header), long))

pub begun_at : (name : FileName) (kind : FiledKind) (u : Option UnsealedFile) → IsOpenAt name kind 0 u
    → IsOpenAt name kind 0 u × (body_of kind u ≡ [])
begun_at name kind u h = grind (arith, drop_all)

pub none_begun : (name : FileName) (kind : FiledKind) (growing : Option RunFacts) (old new : Option UnsealedFile)
    → growing ≡ None → IsOpenAt name kind 0 new → IsBegun name kind growing old new
none_begun name kind growing old new e h = rw e (begun_at name kind new h)

-- a record more at the end of a file of records of this kind
more_at : (name : FileName) (kind : FiledKind) (n m : ℕ) (filed : FiledRecord) (body : List ℕ)
    (mid new : Option UnsealedFile) → m ≡ n + cdr_length filed
    → IsOpenAt name kind n mid → body_of kind mid ≡ body → new ≡ appended (cdr_octets filed) mid
    → IsOpenAt name kind m new × (body_of kind new ≡ body ++ cdr_octets filed)
more_at name kind n m filed body mid new sum h e f = grind (arith, length-append, length-cdr_octets, drop-append-le)

pub grown_at : (name : FileName) (growing : Option RunFacts) (filed : FiledRecord) (old mid new : Option UnsealedFile)
    → IsBegun name (grown_facts growing filed).kind growing old mid
    → new ≡ appended (cdr_octets filed) mid
    → IsOpenAt name (grown_facts growing filed).kind (grown_facts growing filed).octets new
    × (body_of (grown_facts growing filed).kind new ≡ body_behind growing old ++ cdr_octets filed)
grown_at name None filed old mid new h f =
    more_at name filed.kind 0 (cdr_length filed) filed [] mid new (omega arith) h.0 h.1 f
grown_at name (Some run) filed old mid new h f =
    more_at name run.kind run.octets (run.octets + cdr_length filed) filed (body_of run.kind old) mid new refl h.0 h.1 f

-- the calls are made, since the file isn't sealed yet
pub makes_unsealed : {A : Type 0} (tells : Ghosts A) (closed sealed : ℕ) (calls : List Call) (ended : Ending)
    (old new : A) → sealed < closed + 1
    → Makes tells calls ended old new → Makes tells (unless_sealed sealed (closed + 1) calls) ended old new
makes_unsealed tells closed sealed calls ended old new h made = rw (lt-leb (closed + 1) sealed h) made
