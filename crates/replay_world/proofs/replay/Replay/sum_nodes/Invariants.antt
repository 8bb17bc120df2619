use Rattle.std.proofs.Common.{◌≡◌, ◌*◌, length, take}
use Rattle.replay_world.proofs.Names.{AreNodeSums, enumerate_from, node_sums, ReplayValue, Stands}
use Rattle.replay_world.proofs.replay.Replay.sum_nodes.Given as goal

-- the nodes so far were counted
abbrev pub invariant-loop-index : goal.invariant-loop-index
invariant-loop-index l = record {
  few : AreNodeSums (l.index * 18446744073709551615) l.sums;
  done : (v : ReplayValue) → Stands v l.self →
      l.sums ≡ node_sums (length v.world.gateways) (take l.index (enumerate_from 0 v.world.nodes));
}
