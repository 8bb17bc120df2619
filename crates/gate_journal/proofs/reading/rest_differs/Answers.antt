use Rattle.std.proofs.Common.{◌≡◌, ℕ, Bool, true, false, not, List, length, take, drop, arith, rules}
use Rattle.std.proofs.lemmas.List.{take_all, length-drop}
use Rattle.gate_journal.proofs.reading.rest_differs.Goals as goal

was_true : (b : Bool) → not b ≡ false → true ≡ b
was_true b is = search rules

all_of : (l : List ℕ) → length l ≡ 32 → take 31 (drop 1 l) ≡ drop 1 l
all_of l long = take_all 31 (drop 1 l) (omega (arith, length-drop 1 l))

pub returns-clause-same : goal.returns-clause-same
returns-clause-same c = λ e. search (rules, was_true, all_of)
