use Rattle.std.proofs.Common.{◌≡◌, drop}
use Rattle.node_core.specs.Submitting.{least, numbers_at}
use Rattle.node_core.proofs.copies.least_at.Given as goal

abbrev pub invariant-loop-copy : goal.invariant-loop-copy
invariant-loop-copy l =
    least l.least (numbers_at l.gateway (drop l.copy-index l.copies)) ≡ least l.number (numbers_at l.gateway l.copies)
