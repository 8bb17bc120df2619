use Rattle.std.proofs.Common.{◌≡◌, ◌++◌, map, take, drop}
use Rattle.node_core.proofs.Names.{first_made, is_done, is_resolved, packet_hearing, while_open}
use Rattle.node_core.proofs.packets.hear_all.Given as goal

abbrev pub invariant-loop-i : goal.invariant-loop-i
invariant-loop-i l =
    (l.packets ≡ map (while_open (packet_hearing l.port l.gateway l.cause l.numbers)) (take l.i l.initial.packets) ++ drop l.i l.initial.packets)
    × (l.made.resolved ≡ first_made is_resolved (while_open (packet_hearing l.port l.gateway l.cause l.numbers)) (take l.i l.initial.packets))
    × (l.made.done ≡ first_made is_done (while_open (packet_hearing l.port l.gateway l.cause l.numbers)) (take l.i l.initial.packets))
