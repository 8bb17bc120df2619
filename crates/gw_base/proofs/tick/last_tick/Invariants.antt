use Rattle.std.proofs.Common.{◌≡◌, drop}
use Rattle.gw_base.specs.TickDue.{last_tick}
use Rattle.gw_base.proofs.Scans.{tick_from}
use Rattle.gw_base.proofs.tick.last_tick.Given as goal

-- the scan that goes on from here ends in what is meant of the whole history
abbrev pub invariant-loop-entry : goal.invariant-loop-entry
invariant-loop-entry l = tick_from l.last (drop l.entry-index l.history) ≡ last_tick l.history
