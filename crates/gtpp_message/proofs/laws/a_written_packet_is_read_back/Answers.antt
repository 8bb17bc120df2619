use Rattle.gtpp_message.proofs.PacketWritten.{one_more, read_back}
use Rattle.gtpp_message.proofs.laws.a_written_packet_is_read_back.Goals as goal

pub returns : goal.returns
returns c = record { read = read_back; more = one_more }
