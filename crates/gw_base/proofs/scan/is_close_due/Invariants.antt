use Rattle.std.proofs.Common.{◌≡◌, drop}
use Rattle.gw_base.specs.History.{is_close_due}
use Rattle.gw_base.proofs.Scans.{due_from}
use Rattle.gw_base.proofs.scan.is_close_due.Given as goal

-- the scan that goes on from here ends in what is meant of the whole history
abbrev pub invariant-loop-entry : goal.invariant-loop-entry
invariant-loop-entry l = due_from l.due (drop l.entry-index l.history) ≡ is_close_due l.history
