use Rattle.gtpp_message.proofs.PacketSpelled.{packet_spelled}
use Rattle.gtpp_message.proofs.laws.packets_are_spelled.Goals as goal

pub returns : goal.returns
returns c = packet_spelled
