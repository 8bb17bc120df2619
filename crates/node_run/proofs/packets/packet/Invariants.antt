use Rattle.std.proofs.Common.{◌≡◌}
use Rattle.node_run.proofs.PacketLemmas.{packet_upto}
use Rattle.node_run.proofs.packets.packet.Given as goal

-- the records in front were added
abbrev pub invariant-loop-n : goal.invariant-loop-n
invariant-loop-n l = l.draft ≡ packet_upto l.number l.n
