use Rattle.std.proofs.Common.{◌≡◌, drop}
use Rattle.gw_base.specs.History.{top_of}
use Rattle.gw_base.proofs.Scans.{top_from}
use Rattle.gw_base.proofs.scan.top.Given as goal

-- the scan that goes on from here ends in what is meant of the whole history
abbrev pub invariant-loop-entry : goal.invariant-loop-entry
invariant-loop-entry l = top_from l.node.0 l.top (drop l.entry-index l.history) ≡ top_of l.node.0 l.history
