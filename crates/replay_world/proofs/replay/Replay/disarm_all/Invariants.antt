use Rattle.std.proofs.Common.{◌≡◌, ◌+◌, ◌-◌, [], length}
use Rattle.replay_world.proofs.Names.{range_with_len, ReplayValue, Stands}
use Rattle.replay_world.proofs.SettleLemmas.{disarms}
use Rattle.replay_world.proofs.StepsLemmas.{SoFar}
use Rattle.replay_world.proofs.replay.Replay.disarm_all.Given as goal

-- nothing is armed for the gateways so far
abbrev pub invariant-loop-index : goal.invariant-loop-index
invariant-loop-index l = record {
  count : length l.self.gateways.items ≡ length l.fn.self.gateways.items;
  done : (v : ReplayValue) → Stands v l.fn.self →
      SoFar v (disarms (range_with_len 1 (length v.world.gateways)))
      (disarms (range_with_len (l.index + 1) (length v.world.gateways - l.index))) [] [] l.self;
}
