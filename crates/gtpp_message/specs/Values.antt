-- What the values that the code lends say.
use Rattle.std.specs.Prelude.{ℕ, List, Option, option_map, Result, Ok, Err}
use Rattle.std.specs.Borrow.{Bor}
use Rattle.gtpp_message.specs.Message as message
use Rattle.gtpp_message.specs.Packet as packet
use Rattle.gtpp_message.specs.Reading as read
use Rattle.gtpp_message.specs.declared.flaw.Flaw.{Flaw}
use Rattle.gtpp_message.specs.declared.message.Message.{Message}
use Rattle.gtpp_message.specs.declared.message.Message.TheVariants as messages
use Rattle.gtpp_message.specs.declared.message.Transfer.{Transfer}
use Rattle.gtpp_message.specs.declared.message.Transfer.TheVariants as transfers
use Rattle.gtpp_message.specs.declared.packet.Packet.{Packet}
use Rattle.gtpp_message.specs.declared.packet.Packet.TheVariants as packets
use Rattle.gtpp_message.specs.declared.reading.Reading.{Reading}
use Rattle.gtpp_message.specs.declared.reading.Reading.TheVariants as readings

-- octets that are lent
abbrev pub lent : Option (Bor (List ℕ)) → Option (List ℕ)
lent octets = option_map (λ part. part.now) octets

abbrev pub packet_value : Packet → packet.PacketValue
packet_value packets.Empty = packet.Empty
packet_value (packets.Full count format version value) = packet.Full (packet.stated_form count format version value.now) value.now

abbrev pub transfer_value : Transfer → message.TransferValue
transfer_value (transfers.Send p) = message.Send (packet_value p)
transfer_value (transfers.Possible p) = message.Possible (packet_value p)
transfer_value (transfers.Cancel numbers) = message.Cancel numbers
transfer_value (transfers.Release numbers) = message.Release numbers

abbrev pub message_value : Message → message.MessageValue
message_value messages.EchoRequest = message.EchoRequest
message_value (messages.EchoResponse counter) = message.EchoResponse counter
message_value messages.VersionNotSupported = message.VersionNotSupported
message_value (messages.NodeAliveRequest address) = message.NodeAliveRequest (lent address)
message_value messages.NodeAliveResponse = message.NodeAliveResponse
message_value (messages.RedirectionRequest cause to) = message.RedirectionRequest cause (lent to)
message_value (messages.RedirectionResponse cause) = message.RedirectionResponse cause
message_value (messages.TransferRequest body) = message.TransferRequest (transfer_value body)
message_value (messages.TransferResponse cause responded) = message.TransferResponse cause responded

abbrev pub reading_value : Reading → read.ReadingValue
reading_value (readings.Message number spoken) = read.Message number (message_value spoken)
reading_value (readings.Refused kind cause number) = read.Refused kind cause number
reading_value (readings.OtherVersion kind number) = read.OtherVersion kind number
reading_value (readings.Drop why) = read.Drop why

-- how many records a packet says that it has
abbrev pub stated_count : Packet → ℕ
stated_count packets.Empty = 0
stated_count (packets.Full count format version value) = count

-- what was read, seen by view, or the flaw
abbrev pub seen : {A B : Type 0} → (A → B) → Result A Flaw → Result B Flaw
seen view (Ok x) = Ok (view x)
seen view (Err flaw) = Err flaw
