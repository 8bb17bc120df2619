-- The order in which a datagram is read. The first condition that holds decides, and where none holds the message is read.
use Rattle.std.specs.Prelude.{ℕ, ◌%◌, ◌==◌, Bool, true, ◌||◌, List, ◌∷◌, length, take, drop, Option, Some, None, Result, Ok, Err, if◌then◌else◌}
use Rattle.gtpp_header.specs.Reading.{header_reading}
use Rattle.gtpp_header.specs.declared.Header.{Header}
use Rattle.gtpp_header.specs.declared.fault.HeadFault.{HeadFault}
use Rattle.gtpp_header.specs.declared.fault.HeadFault.TheVariants as head
use Rattle.gtpp_elements.specs.Elements.{Element, first_value}
use Rattle.gtpp_elements.specs.Numbers.{numbers_in}
use Rattle.gtpp_elements.specs.Reading.{elements_in}
use Rattle.gtpp_elements.specs.declared.element_types.TheConstants.{CAUSE, COMMAND, NODE_ADDRESS, RECOMMENDED, RECOVERY, RESPONDED}
use Rattle.gtpp_elements.specs.declared.fault.ElementFault.{ElementFault}
use Rattle.gw_base.specs.declared.cause.TheConstants.{ELEMENT_INCORRECT, ELEMENT_MISSING, INVALID_MESSAGE_FORMAT}
use Rattle.gtpp_message.specs.Message.{MessageValue, TransferValue, EchoRequest, EchoResponse, VersionNotSupported, NodeAliveRequest, NodeAliveResponse, RedirectionRequest, RedirectionResponse, TransferRequest, TransferResponse, Send, Possible, Cancel, Release, command_needs, is_message_type}
use Rattle.gtpp_message.specs.Packet.{PacketValue, packet_reading}
use Rattle.gtpp_message.specs.declared.command.TheConstants.{CANCEL, RELEASE, SEND, SEND_POSSIBLE}
use Rattle.gtpp_message.specs.declared.flaw.Flaw.{Flaw}
use Rattle.gtpp_message.specs.declared.flaw.Flaw.TheVariants.{Elements, Missing, Incorrect}
use Rattle.gtpp_message.specs.declared.message_types.TheConstants.{ECHO_REQUEST, ECHO_RESPONSE, NODE_ALIVE_REQUEST, NODE_ALIVE_RESPONSE, REDIRECTION_REQUEST, REDIRECTION_RESPONSE, TRANSFER_REQUEST, VERSION_NOT_SUPPORTED}
use Rattle.gtpp_message.specs.declared.reading.Why.{Why}
use Rattle.gtpp_message.specs.declared.reading.Why.TheVariants as why

-- what is read of a datagram
pub data ReadingValue : Type 0 where
  Message : (number : ℕ) (message : MessageValue) → ReadingValue
  Refused : (kind cause number : ℕ) → ReadingValue
  OtherVersion : (kind number : ℕ) → ReadingValue
  Drop : (why : Why) → ReadingValue

-- what f makes of what was read, or the flaw
infixl 10 ◌>>=◌
abbrev pub ◌>>=◌ : {A B : Type 0} → Result A Flaw → (A → Result B Flaw) → Result B Flaw
(Ok x) >>= f = f x
(Err flaw) >>= f = Err flaw

-- the cause that answers a flaw
abbrev pub flaw_cause : Flaw → ℕ
flaw_cause Elements = INVALID_MESSAGE_FORMAT
flaw_cause Missing = ELEMENT_MISSING
flaw_cause Incorrect = ELEMENT_INCORRECT

-- the value of an element that must stand there
abbrev pub present : Option (List ℕ) → Result (List ℕ) Flaw
present (Some value) = Ok value
present None = Err Missing

-- the octet of a value that must stand there
abbrev pub octet_in : Option (List ℕ) → Result ℕ Flaw
octet_in (Some (octet ∷ rest)) = Ok octet
octet_in _ = Err Missing

-- an address of a recommended node has 4 or 16 octets, where it is given
abbrev pub is_address : Option (List ℕ) → Bool
is_address None = true
is_address (Some octets) = (length octets == 4) || (length octets == 16)

-- the numbers of a list
abbrev pub numbers_of : List ℕ → Result (List ℕ) Flaw
numbers_of value = if length value % 2 == 1 then Err Incorrect else Ok (numbers_in value)

-- what a packet says
abbrev pub packet_of_value : Option PacketValue → Result PacketValue Flaw
packet_of_value (Some packet) = Ok packet
packet_of_value None = Err Incorrect

-- the packet in an element of this type
abbrev pub packet_among : ℕ → List Element → Result PacketValue Flaw
packet_among kind elements = present (first_value kind elements) >>= λ value. packet_of_value (packet_reading value)

-- the list of numbers in an element of this type
abbrev pub numbers_among : ℕ → List Element → Result (List ℕ) Flaw
numbers_among kind elements = present (first_value kind elements) >>= numbers_of

-- what a request with this command asks
abbrev pub transfer_of : ℕ → List Element → Result TransferValue Flaw
transfer_of command elements =
    if command == SEND then packet_among (command_needs SEND) elements >>= (λ packet. Ok (Send packet))
    else if command == SEND_POSSIBLE then packet_among (command_needs SEND_POSSIBLE) elements >>= (λ packet. Ok (Possible packet))
    else if command == CANCEL then numbers_among (command_needs CANCEL) elements >>= (λ numbers. Ok (Cancel numbers))
    else if command == RELEASE then numbers_among (command_needs RELEASE) elements >>= (λ numbers. Ok (Release numbers))
    else Err Incorrect

abbrev pub redirection_of : ℕ → Option (List ℕ) → Result MessageValue Flaw
redirection_of cause to = if is_address to then Ok (RedirectionRequest cause to) else Err Incorrect

abbrev pub echo_response_of : List Element → Result MessageValue Flaw
echo_response_of elements = octet_in (first_value RECOVERY elements) >>= λ counter. Ok (EchoResponse counter)

abbrev pub redirection_request_of : List Element → Result MessageValue Flaw
redirection_request_of elements = octet_in (first_value CAUSE elements) >>= λ cause. redirection_of cause (first_value RECOMMENDED elements)

abbrev pub redirection_response_of : List Element → Result MessageValue Flaw
redirection_response_of elements = octet_in (first_value CAUSE elements) >>= λ cause. Ok (RedirectionResponse cause)

abbrev pub transfer_request_of : List Element → Result MessageValue Flaw
transfer_request_of elements =
    octet_in (first_value COMMAND elements) >>= λ command. (transfer_of command elements >>= λ body. Ok (TransferRequest body))

abbrev pub transfer_response_of : List Element → Result MessageValue Flaw
transfer_response_of elements =
    octet_in (first_value CAUSE elements)
    >>= λ cause. (numbers_among RESPONDED elements >>= λ responded. Ok (TransferResponse cause responded))

-- what the elements of a message of this type say, or the first that is missing or incorrect
abbrev pub message_of : ℕ → List Element → Result MessageValue Flaw
message_of kind elements =
    if kind == ECHO_REQUEST then Ok EchoRequest
    else if kind == ECHO_RESPONSE then echo_response_of elements
    else if kind == VERSION_NOT_SUPPORTED then Ok VersionNotSupported
    else if kind == NODE_ALIVE_REQUEST then Ok (NodeAliveRequest (first_value NODE_ADDRESS elements))
    else if kind == NODE_ALIVE_RESPONSE then Ok NodeAliveResponse
    else if kind == REDIRECTION_REQUEST then redirection_request_of elements
    else if kind == REDIRECTION_RESPONSE then redirection_response_of elements
    else if kind == TRANSFER_REQUEST then transfer_request_of elements
    else transfer_response_of elements

-- what a body says in a message of this type
abbrev pub body_of : ℕ → Result (List Element) ElementFault → Result MessageValue Flaw
body_of kind (Ok elements) = message_of kind elements
body_of kind (Err fault) = Err Elements

abbrev pub answered : ℕ → ℕ → Result MessageValue Flaw → ReadingValue
answered kind number (Ok message) = Message number message
answered kind number (Err flaw) = Refused kind (flaw_cause flaw) number

-- what is read behind a header
abbrev pub behind : Result Header HeadFault → List ℕ → ReadingValue
behind (Ok header) octets =
    if is_message_type header.kind then answered header.kind header.number (body_of header.kind (elements_in (take header.length (drop 6 octets))))
    else Drop why.UnknownType
behind (Err head.Short) octets = Drop why.Short
behind (Err head.NotPrime) octets = Drop why.NotPrime
behind (Err (head.Version version kind number)) octets = OtherVersion kind number
behind (Err (head.Cut length)) octets = Drop why.Cut

-- what is read of the octets of a datagram
abbrev pub reading : List ℕ → ReadingValue
reading octets = behind (header_reading octets) octets
