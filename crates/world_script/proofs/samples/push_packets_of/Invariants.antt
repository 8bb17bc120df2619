use Rattle.std.proofs.Common.{◌≡◌, ◌++◌, map}
use Rattle.world_script.proofs.Names.{range_with_len, submitted}
use Rattle.world_script.proofs.samples.push_packets_of.Given as goal

abbrev pub invariant-loop-place : goal.invariant-loop-place
invariant-loop-place l =
    l.lines.items ≡ l.initial.lines.items ++ map (submitted l.node) (range_with_len l.first l.place)
