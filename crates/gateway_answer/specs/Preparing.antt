-- What a gateway makes of a datagram before it looks at its history (3GPP TS 32.295, clause 6.2): what it reads as a
-- gateway, and then whether the records that a request sends are what their format says.
use Rattle.std.specs.Prelude.{◌≡◌, ◌≤◌, ℕ, Bool, true, ◌==◌, if◌then◌else◌, List, length, Option, Some, None}
use Rattle.std.specs.List.{list_all}
use Rattle.ber_frame.specs.Checked.{is_one_value}
use Rattle.gw_base.specs.declared.cause.TheConstants.{CDR_DECODING_ERROR}
use Rattle.gtpp_message.specs.Message.{MessageValue, TransferValue, TransferRequest, Send, Possible, Cancel, Release}
use Rattle.gtpp_message.specs.Packet.{PacketForm, PacketValue, Empty, Full, packet_octets}
use Rattle.gtpp_message.specs.PathMessages.{path_event}
use Rattle.gtpp_message.specs.Reading.{ReadingValue}
use Rattle.gtpp_message.specs.Reading as read
use Rattle.gtpp_message.specs.Role.{role_reading}
use Rattle.gtpp_message.specs.Writing.{IsSendableTransfer}
use Rattle.gtpp_message.specs.declared.reading.Why.{Why}
use Rattle.gtpp_message.specs.declared.reading.Why.TheVariants.{Stray}
use Rattle.gtpp_message.specs.declared.role.Role.TheVariants.{Gateway}
use Rattle.path_mgmt.specs.declared.event.PathEvent.{PathEvent}

-- what a datagram is: one that isn't answered, one that a fixed message answers, a message of path management, or a
-- request with its sequence number
pub data PreparedValue : Type 0 where
  Drop : (why : Why) → PreparedValue
  OtherVersion : (number : ℕ) → PreparedValue
  Refused : (cause number : ℕ) → PreparedValue
  Path : (event : PathEvent) → PreparedValue
  Request : (number : ℕ) (body : TransferValue) → PreparedValue

-- the data record format of records in ASN.1 BER
abbrev pub ber_format : ℕ
ber_format = 1

-- each record of a packet of that format is one BER value
abbrev pub has_values : PacketForm → Bool
has_values form = if form.format == ber_format then list_all is_one_value form.records else true

abbrev pub packet_has_values : PacketValue → Bool
packet_has_values Empty = true
packet_has_values (Full form value) = has_values form

-- so is each record that a request sends in a packet of that format
abbrev pub sends_values : TransferValue → Bool
sends_values (Send packet) = packet_has_values packet
sends_values (Possible packet) = packet_has_values packet
sends_values (Cancel numbers) = true
sends_values (Release numbers) = true

-- a request that was read, whose records may be such that they can't be decoded
abbrev pub requested : ℕ → TransferValue → PreparedValue
requested number body = if sends_values body then Request number body else Refused CDR_DECODING_ERROR number

-- a message that tells an end of the path something; the others are sent to no gateway, and none of them is read
abbrev pub told : Option PathEvent → PreparedValue
told (Some event) = Path event
told None = Drop Stray

-- a message that was read
abbrev pub received : ℕ → MessageValue → PreparedValue
received number (TransferRequest body) = requested number body
received number message = told (path_event number message)

-- what was read
abbrev pub framed : ReadingValue → PreparedValue
framed (read.Drop why) = Drop why
framed (read.OtherVersion kind number) = OtherVersion number
framed (read.Refused kind cause number) = Refused cause number
framed (read.Message number message) = received number message

-- what a gateway makes of the octets of a datagram
abbrev pub prepared_of : List ℕ → PreparedValue
prepared_of octets = framed (role_reading Gateway octets)

-- the body of a request is so
abbrev pub OfRequest : (TransferValue → Type 0) → PreparedValue → Type 0
OfRequest P (Drop why) = Unit {0}
OfRequest P (OtherVersion number) = Unit {0}
OfRequest P (Refused cause number) = Unit {0}
OfRequest P (Path event) = Unit {0}
OfRequest P (Request number body) = P body

-- the packet that a request sends says what its value says, and its records are what their format says
abbrev pub IsWholeTransfer : TransferValue → Type 0
IsWholeTransfer body = IsSendableTransfer body × (sends_values body ≡ true)

abbrev pub IsWhole : PreparedValue → Type 0
IsWhole prepared = OfRequest IsWholeTransfer prepared

-- the packet or the list of a request is no longer than the payload of a message may be
abbrev pub IsShortTransfer : TransferValue → Type 0
IsShortTransfer (Send packet) = length (packet_octets packet) ≤ 65535
IsShortTransfer (Possible packet) = length (packet_octets packet) ≤ 65535
IsShortTransfer (Cancel numbers) = length numbers ≤ 32767
IsShortTransfer (Release numbers) = length numbers ≤ 32767

abbrev pub IsShort : PreparedValue → Type 0
IsShort prepared = OfRequest IsShortTransfer prepared
