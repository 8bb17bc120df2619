-- How a commit moves a book's value.
use Rattle.std.proofs.Common.{◌≡◌, ℕ, Bool, true, false, if◌then◌else◌, List, Result, Ok, Err, length, refl, rules}
use Rattle.gateway_book.proofs.Names.{BookValue, commit_answer, Follows, HistoryEntry, Index}
use Rattle.gateway_book.specs.declared.outcome.Broken.{Broken}

pub answer_ok : (v after : BookValue) → v ≡ after → v.is_broken ≡ false → (n : ℕ) → n ≡ length v.firm → ◌≡◌ {A = Result ℕ Broken} (Ok n) (commit_answer after)
answer_ok v after moved whole n count = rw (count, ← moved, whole) refl

pub answer_broken : (v after : BookValue) → v ≡ after → v.is_broken ≡ true → ◌≡◌ {A = Result ℕ Broken} (Err (record { faults = v.cuts })) (commit_answer after)
answer_broken v after moved broken = rw (← moved, broken) refl

-- the side that the book asks follows its history
pub asked : (closed side : Bool) (index : Index) (firm all : List HistoryEntry) → side ≡ closed → Follows true index firm → Follows false index all → Follows side index (if closed then firm else all)
asked closed side index firm all e one two = search rules
