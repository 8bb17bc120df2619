use Rattle.std.proofs.Common.{◌≡◌, ◌+◌, ◌*◌, ◌++◌}
use Rattle.world_script.proofs.Names.{flat_map, packets_from, range_with_len}
use Rattle.world_script.proofs.samples.push_packets.Given as goal

abbrev pub invariant-loop-node : goal.invariant-loop-node
invariant-loop-node l =
    l.lines.items ≡ l.initial.lines.items ++ flat_map (λ n. packets_from l.extent (n + 1) (l.first + 4 * n)) (range_with_len 0 l.node)
