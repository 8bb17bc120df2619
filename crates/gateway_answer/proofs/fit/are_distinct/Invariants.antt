use Rattle.std.proofs.Common.{◌≡◌, ◌≤◌, true, drop, length}
use Rattle.gateway_answer.proofs.Names.{are_distinct, AreWithin}
use Rattle.gateway_answer.proofs.fit.are_distinct.Given as goal

-- the numbers from this place on differ, and lie between the bounds
abbrev pub invariant-loop-k : goal.invariant-loop-k
invariant-loop-k l = record {
  inside : l.k ≤ length l.numbers;
  differ : are_distinct (drop l.k l.numbers) ≡ true;
  within : AreWithin l.least l.greatest (drop l.k l.numbers);
}

abbrev pub decreases-loop-k : goal.decreases-loop-k
decreases-loop-k l = l.k
