use Rattle.std.proofs.Common.{◌≡◌, drop}
use Rattle.node_core.proofs.Names.{all_drawn, AreNumbers, packet_after_all}
use Rattle.node_core.proofs.plan.send_all.Given as goal

abbrev pub invariant-loop-sending : goal.invariant-loop-sending
invariant-loop-sending l =
    (packet_after_all (drop l.sending-index l.sendings) l.packet ≡ packet_after_all l.sendings l.initial.packet)
    × (all_drawn (drop l.sending-index l.sendings) l.peers ≡ all_drawn l.sendings l.initial.peers)
    × AreNumbers l.peers
