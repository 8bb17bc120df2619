-- How the scan for one key goes on, entry by entry: a step of the proof that it finds the key's state.
use Rattle.std.specs.Prelude.{◌+◌, if◌then◌else◌}
use Rattle.gw_base.specs.History.{begins_epoch}
use Rattle.gw_base.specs.View.{state_after}
use Rattle.gw_base.specs.declared.history.HistoryAct.{HistoryAct}
use Rattle.gw_base.specs.declared.history.PacketKey.{PacketKey}
use Rattle.gw_base.specs.declared.scan.KeyScan.{KeyScan}

abbrev pub scan_after : PacketKey → KeyScan → HistoryAct → KeyScan
scan_after key s act = record {
  epoch = s.epoch + (if begins_epoch key.node.0 act then 1 else 0);
  state = state_after key s.epoch s.state act;
}
