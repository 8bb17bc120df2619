use Rattle.std.proofs.Common.{◌≡◌, ◌≤◌, drop}
use Rattle.gw_base.specs.History.{state_of}
use Rattle.gw_base.proofs.Scans.{scan_from}
use Rattle.gw_base.proofs.scan.state.Given as goal

-- the scan that goes on from here ends in the key's state
abbrev pub invariant-loop-entry : goal.invariant-loop-entry
invariant-loop-entry l = record {
  ends : (scan_from l.key l.scan (drop l.entry-index l.history)).state ≡ state_of l.key l.history;
  within : l.scan.epoch ≤ l.entry-index;
}
