use Rattle.std.proofs.Common.{◌≡◌, drop}
use Rattle.gw_base.specs.Starts.{opening_of}
use Rattle.gw_base.proofs.Scans.{opening_from}
use Rattle.gw_base.proofs.starts.opening.Given as goal

-- the scan that goes on from here ends in what is meant of the whole history
abbrev pub invariant-loop-entry : goal.invariant-loop-entry
invariant-loop-entry l = opening_from l.node.0 l.opening (drop l.entry-index l.history) ≡ opening_of l.node.0 l.history
