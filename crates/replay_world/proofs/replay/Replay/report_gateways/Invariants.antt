use Rattle.std.proofs.Common.{◌≡◌, ◌++◌, length}
use Rattle.replay_world.proofs.Names.{flat_map, gateway_lines, range_with_len, ReplayValue, Stands}
use Rattle.replay_world.proofs.replay.Replay.report_gateways.Given as goal

-- the gateways so far were reported
abbrev pub invariant-loop-index : goal.invariant-loop-index
invariant-loop-index l = record {
  count : length l.self.gateways.items ≡ length l.fn.self.gateways.items;
  done : (v : ReplayValue) → Stands v l.fn.self →
      Stands v l.self × (l.out ≡ l.fn.out ++ flat_map (gateway_lines v) (range_with_len 0 l.index));
}
