use Rattle.std.proofs.Common.{◌≡◌, ℕ, ◌==◌, drop}
use Rattle.gw_base.specs.Lists.{once}
use Rattle.gateway_answer.proofs.ListsLemmas.{once_from}
use Rattle.gateway_answer.proofs.filing.each_once.Given as goal

-- those so far go on to each of all the numbers once
abbrev pub invariant-loop-number : goal.invariant-loop-number
invariant-loop-number l = once_from l.once.items (drop l.number-index l.numbers) ≡ once (λ (x : ℕ) (y : ℕ). x == y) l.numbers
