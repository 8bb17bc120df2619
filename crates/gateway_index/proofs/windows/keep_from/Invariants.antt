use Rattle.gateway_index.specs.WindowPairs.{AreKeptIn}
use Rattle.gateway_index.proofs.windows.keep_from.Given as goal

-- the pairs so far are kept
abbrev pub invariant-loop-place : goal.invariant-loop-place
invariant-loop-place l = AreKeptIn l.from l.place l.firm l.initial.pairs.items l.pairs.items
