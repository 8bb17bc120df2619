use Rattle.std.proofs.Common.{◌≡◌, ◌++◌, take}
use Rattle.node_core.proofs.Names.{flat_map, settling_beside}
use Rattle.node_core.proofs.due.settle_beside.Given as goal

abbrev pub invariant-loop-copy : goal.invariant-loop-copy
invariant-loop-copy l =
    l.out.items ≡ l.initial.out.items ++ flat_map (settling_beside l.choice l.peers l.packet) (take l.copy-index l.duplicates)
