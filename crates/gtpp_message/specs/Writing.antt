-- The one spelling in which a message is sent.
use Rattle.std.specs.Prelude.{ℕ, IsTrue, List, [], ◌∷◌, ◌++◌, length, Option, Some, None}
use Rattle.gtpp_header.specs.Header.{spelled}
use Rattle.gtpp_elements.specs.Elements.{Element, octets_of}
use Rattle.gtpp_elements.specs.Numbers.{number_octets}
use Rattle.gtpp_elements.specs.declared.element_types.TheConstants.{CAUSE, COMMAND, NODE_ADDRESS, RECOMMENDED, RECOVERY, RESPONDED}
use Rattle.gtpp_message.specs.Message.{MessageValue, TransferValue, EchoRequest, EchoResponse, VersionNotSupported, NodeAliveRequest, NodeAliveResponse, RedirectionRequest, RedirectionResponse, TransferRequest, TransferResponse, Send, Possible, Cancel, Release, command_needs}
use Rattle.gtpp_message.specs.Packet.{IsPacket, packet_octets}
use Rattle.gtpp_message.specs.Reading.{ReadingValue, Drop, Message, OtherVersion, Refused, is_address}
use Rattle.gtpp_message.specs.declared.command.TheConstants.{CANCEL, RELEASE, SEND, SEND_POSSIBLE}
use Rattle.gtpp_message.specs.declared.message_types.TheConstants.{ECHO_REQUEST, ECHO_RESPONSE, NODE_ALIVE_REQUEST, NODE_ALIVE_RESPONSE, REDIRECTION_REQUEST, REDIRECTION_RESPONSE, TRANSFER_REQUEST, TRANSFER_RESPONSE, VERSION_NOT_SUPPORTED}

-- the type of a message
abbrev pub message_type : MessageValue → ℕ
message_type EchoRequest = ECHO_REQUEST
message_type (EchoResponse counter) = ECHO_RESPONSE
message_type VersionNotSupported = VERSION_NOT_SUPPORTED
message_type (NodeAliveRequest address) = NODE_ALIVE_REQUEST
message_type NodeAliveResponse = NODE_ALIVE_RESPONSE
message_type (RedirectionRequest cause to) = REDIRECTION_REQUEST
message_type (RedirectionResponse cause) = REDIRECTION_RESPONSE
message_type (TransferRequest body) = TRANSFER_REQUEST
message_type (TransferResponse cause responded) = TRANSFER_RESPONSE

-- an element
abbrev pub element : ℕ → List ℕ → Element
element kind value = record { kind = kind; value = value }

-- an element that may be left out
abbrev pub optional_element : ℕ → Option (List ℕ) → List Element
optional_element kind None = []
optional_element kind (Some value) = element kind value ∷ []

-- the Packet Transfer Command of a request, and the element that it needs
abbrev pub command_of : TransferValue → ℕ
command_of (Send packet) = SEND
command_of (Possible packet) = SEND_POSSIBLE
command_of (Cancel numbers) = CANCEL
command_of (Release numbers) = RELEASE

abbrev pub command_element : TransferValue → ℕ
command_element body = command_needs (command_of body)

-- the value of that element
abbrev pub transfer_octets : TransferValue → List ℕ
transfer_octets (Send packet) = packet_octets packet
transfer_octets (Possible packet) = packet_octets packet
transfer_octets (Cancel numbers) = number_octets numbers
transfer_octets (Release numbers) = number_octets numbers

abbrev pub transfer_elements : TransferValue → List Element
transfer_elements body = element COMMAND (command_of body ∷ []) ∷ element (command_element body) (transfer_octets body) ∷ []

-- the elements of a message as it is sent, in their order
abbrev pub elements_of : MessageValue → List Element
elements_of EchoRequest = []
elements_of (EchoResponse counter) = element RECOVERY (counter ∷ []) ∷ []
elements_of VersionNotSupported = []
elements_of (NodeAliveRequest address) = optional_element NODE_ADDRESS address
elements_of NodeAliveResponse = []
elements_of (RedirectionRequest cause to) = element CAUSE (cause ∷ []) ∷ optional_element RECOMMENDED to
elements_of (RedirectionResponse cause) = element CAUSE (cause ∷ []) ∷ []
elements_of (TransferRequest body) = transfer_elements body
elements_of (TransferResponse cause responded) = element CAUSE (cause ∷ []) ∷ element RESPONDED (number_octets responded) ∷ []

-- what follows the header of a message as it is sent
abbrev pub body_octets : MessageValue → List ℕ
body_octets message = octets_of (elements_of message)

-- a message as it is sent
abbrev pub written : ℕ → MessageValue → List ℕ
written number message = spelled (record { kind = message_type message; length = length (body_octets message); number = number }) ++ body_octets message

-- what a request asks may be sent: its packet's value says what the packet says
abbrev pub IsSendableTransfer : TransferValue → Type 0
IsSendableTransfer (Send packet) = IsPacket packet
IsSendableTransfer (Possible packet) = IsPacket packet
IsSendableTransfer (Cancel numbers) = Unit {0}
IsSendableTransfer (Release numbers) = Unit {0}

-- the message may be sent: an address is one, and a packet's value says what the packet says
abbrev pub IsSendableMessage : MessageValue → Type 0
IsSendableMessage (RedirectionRequest cause to) = IsTrue (is_address to)
IsSendableMessage (TransferRequest body) = IsSendableTransfer body
IsSendableMessage _ = Unit {0}

-- what was read may be sent, where it is a message
abbrev pub IsSendableReading : ReadingValue → Type 0
IsSendableReading (Message number message) = IsSendableMessage message
IsSendableReading (Refused kind cause number) = Unit {0}
IsSendableReading (OtherVersion kind number) = Unit {0}
IsSendableReading (Drop why) = Unit {0}
