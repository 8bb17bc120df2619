-- The parts of which a message is put together as it is sent (steps of the proof): what stands before the octets that the
-- message lends, and these.
use Rattle.std.specs.Prelude.{ℕ, ◌/◌, ◌%◌, List, [], ◌∷◌, ◌++◌, length, Option, Some, None}
use Rattle.gtpp_elements.specs.Numbers.{number_octets}
use Rattle.gtpp_elements.specs.declared.element_types.TheConstants.{CANCELLED, CAUSE, COMMAND, NODE_ADDRESS, PACKET, RECOMMENDED, RECOVERY, RELEASED, RESPONDED}
use Rattle.gtpp_message.specs.Message.{MessageValue, TransferValue, EchoRequest, EchoResponse, VersionNotSupported, NodeAliveRequest, NodeAliveResponse, RedirectionRequest, RedirectionResponse, TransferRequest, TransferResponse, Send, Possible, Cancel, Release}
use Rattle.gtpp_message.specs.Packet.{packet_octets}
use Rattle.gtpp_message.specs.declared.command.TheConstants.{CANCEL, RELEASE, SEND, SEND_POSSIBLE}
use Rattle.gtpp_message.specs.declared.parts.LentElement.{LentElement}
use Rattle.gtpp_message.specs.declared.parts.OctetElement.{OctetElement}
use Rattle.gtpp_message.specs.declared.parts.Parts.{Parts}

-- an element of one octet, where there is one
abbrev pub octet_octets : Option OctetElement → List ℕ
octet_octets None = []
octet_octets (Some element) = element.kind ∷ element.octet ∷ []

-- what stands before the value of an element that states its length, where there is one, and the value
abbrev pub head_octets : Option LentElement → List ℕ
head_octets None = []
head_octets (Some element) = element.kind ∷ length element.value.now / 256 ∷ length element.value.now % 256 ∷ []

abbrev pub tail_octets : Option LentElement → List ℕ
tail_octets None = []
tail_octets (Some element) = element.value.now

abbrev pub parts_octets : Parts → List ℕ
parts_octets parts = octet_octets parts.octet ++ (head_octets parts.value ++ tail_octets parts.value)

-- an element that states its length
abbrev pub valued : ℕ → List ℕ → List ℕ
valued kind value = kind ∷ length value / 256 ∷ length value % 256 ∷ value

abbrev pub sent_request : TransferValue → List ℕ
sent_request (Send packet) = COMMAND ∷ SEND ∷ valued PACKET (packet_octets packet)
sent_request (Possible packet) = COMMAND ∷ SEND_POSSIBLE ∷ valued PACKET (packet_octets packet)
sent_request (Cancel numbers) = COMMAND ∷ CANCEL ∷ valued CANCELLED (number_octets numbers)
sent_request (Release numbers) = COMMAND ∷ RELEASE ∷ valued RELEASED (number_octets numbers)

-- what follows the header of a message as it is sent
abbrev pub sent_body : MessageValue → List ℕ
sent_body EchoRequest = []
sent_body (EchoResponse counter) = RECOVERY ∷ counter ∷ []
sent_body VersionNotSupported = []
sent_body (NodeAliveRequest None) = []
sent_body (NodeAliveRequest (Some address)) = valued NODE_ADDRESS address
sent_body NodeAliveResponse = []
sent_body (RedirectionRequest cause None) = CAUSE ∷ cause ∷ []
sent_body (RedirectionRequest cause (Some address)) = CAUSE ∷ cause ∷ valued RECOMMENDED address
sent_body (RedirectionResponse cause) = CAUSE ∷ cause ∷ []
sent_body (TransferRequest body) = sent_request body
sent_body (TransferResponse cause responded) = CAUSE ∷ cause ∷ valued RESPONDED (number_octets responded)
