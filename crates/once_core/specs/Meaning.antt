-- What a message with octets means: a request of a node, the answer of a gateway to one, or anything else, by what is read
-- of its octets at either end.
use Rattle.std.specs.Prelude.{ℕ, Bool, true, false}
use Rattle.gtpp_message.specs.Message.{MessageValue, TransferValue, EchoRequest, EchoResponse, VersionNotSupported, NodeAliveRequest, NodeAliveResponse, RedirectionRequest, RedirectionResponse, TransferRequest, TransferResponse, Send, Possible, Cancel, Release}
use Rattle.gtpp_message.specs.Packet.{PacketValue, Empty, Full}
use Rattle.gtpp_message.specs.Reading.{ReadingValue, Drop, Message, OtherVersion, Refused, reading}
use Rattle.node_core.specs.declared.copy.Order.TheVariants as order
use Rattle.once_core.specs.Addresses.{node_ip}
use Rattle.once_core.specs.Happenings.{Answers, Asks, Else, Letter, Meaning, Orders, Request, Sends, Tests}
use Rattle.once_core.specs.Messages.{about}
use Rattle.once_core.specs.declared.message.Message as sent

-- a copy of a packet, plain or possibly duplicated; the empty packet tests whether a copy came
abbrev pub copy_in : Bool → PacketValue → Request
copy_in is_plain Empty = Tests
copy_in is_plain (Full form value) = Sends is_plain value

-- a request, where this is the whole number of the copy that it is about
abbrev pub request_in : ℕ → TransferValue → Request
request_in number (Send packet) = copy_in true packet
request_in number (Possible packet) = copy_in false packet
request_in number (Release numbers) = Orders order.Release number
request_in number (Cancel numbers) = Orders order.Cancel number

abbrev pub meaning_in : ℕ → MessageValue → Meaning
meaning_in number (TransferRequest body) = Asks (request_in number body)
meaning_in number (TransferResponse cause responded) = Answers cause
meaning_in number EchoRequest = Else
meaning_in number (EchoResponse counter) = Else
meaning_in number VersionNotSupported = Else
meaning_in number (NodeAliveRequest address) = Else
meaning_in number NodeAliveResponse = Else
meaning_in number (RedirectionRequest cause to) = Else
meaning_in number (RedirectionResponse cause) = Else

abbrev pub meaning_by : ℕ → ReadingValue → Meaning
meaning_by number (Message path message) = meaning_in number message
meaning_by number (Refused kind cause path) = Else
meaning_by number (OtherVersion kind path) = Else
meaning_by number (Drop why) = Else

unfoldable pub meaning_of : sent.Message → Meaning
meaning_of m = meaning_by (about m) (reading m.octets)

-- a request or an answer
abbrev pub is_spoken : Meaning → Bool
is_spoken (Asks request) = true
is_spoken (Answers cause) = true
is_spoken Else = false

abbrev pub speaks : sent.Message → Bool
speaks m = is_spoken (meaning_of m)

-- the message by what it means
abbrev pub letter_of : sent.Message → Letter
letter_of m = record {
  node = node_ip m.node;
  start = m.start;
  gateway = m.gateway;
  port = m.port;
  number = m.number;
  says = meaning_of m;
}
