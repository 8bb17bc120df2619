use Rattle.std.proofs.Common.{◌≡◌, ◌*◌, length, take}
use Rattle.replay_world.proofs.Names.{AreGatewaySums, gateway_sums, ReplayValue, Stands}
use Rattle.replay_world.proofs.replay.Replay.sum_gateways.Given as goal

-- the gateways so far were counted
abbrev pub invariant-loop-index : goal.invariant-loop-index
invariant-loop-index l = record {
  count : length l.self.gateways.items ≡ length l.fn.self.gateways.items;
  few : AreGatewaySums (l.index * 18446744073709551615) l.sums;
  done : (v : ReplayValue) → Stands v l.fn.self →
      Stands v l.self × (l.sums ≡ gateway_sums (take l.index v.world.gateways));
}
