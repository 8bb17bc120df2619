use Rattle.std.proofs.Common.{◌≡◌, ◌++◌, map, take, drop}
use Rattle.node_core.specs.Packets.{commanded}
use Rattle.node_core.proofs.copies.command.Given as goal

abbrev pub invariant-loop-i : goal.invariant-loop-i
invariant-loop-i l =
    l.copies ≡ map (commanded l.gateway l.command) (take l.i l.initial.copies) ++ drop l.i l.initial.copies
