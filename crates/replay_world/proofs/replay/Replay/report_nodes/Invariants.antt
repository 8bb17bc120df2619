use Rattle.std.proofs.Common.{◌≡◌, ◌++◌}
use Rattle.replay_world.proofs.Names.{flat_map, range_with_len, ReplayValue, Stands}
use Rattle.replay_world.proofs.SummaryLemmas.{node_lines}
use Rattle.replay_world.proofs.replay.Replay.report_nodes.Given as goal

-- the nodes so far were reported
abbrev pub invariant-loop-index : goal.invariant-loop-index
invariant-loop-index l = (v : ReplayValue) → Stands v l.self →
    l.out ≡ l.fn.out ++ flat_map (node_lines v) (range_with_len 0 l.index)
