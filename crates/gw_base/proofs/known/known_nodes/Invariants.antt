use Rattle.std.proofs.Common.{◌≡◌, drop}
use Rattle.gw_base.specs.Known.{known_nodes}
use Rattle.gw_base.proofs.Scans.{known_from}
use Rattle.gw_base.proofs.known.known_nodes.Given as goal

-- the scan that goes on from here ends in what is meant of the whole history
abbrev pub invariant-loop-entry : goal.invariant-loop-entry
invariant-loop-entry l = known_from l.known.items (drop l.entry-index l.history) ≡ known_nodes l.history
