use Rattle.gateway_index.specs.WindowPairs.{AreBlank}
use Rattle.gateway_index.proofs.windows.make.Given as goal

-- so many are made so far
abbrev pub invariant-loop : goal.invariant-loop
invariant-loop l = AreBlank l.counter l.pairs.items
