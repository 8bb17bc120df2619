use Rattle.std.proofs.Common.{◌≡◌, map, take}
use Rattle.node_core.specs.Counting.{counts_of}
use Rattle.loop_run.proofs.counts.node_counts.Given as goal

abbrev pub invariant-loop-node : goal.invariant-loop-node
invariant-loop-node l = l.counts.items ≡ map counts_of (take l.node-index l.nodes)
