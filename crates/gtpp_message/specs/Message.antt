-- What the messages of GTP' say (3GPP TS 32.295, clause 6.2), and the elements in which each says it.
use Rattle.std.specs.Prelude.{ℕ, Bool, is_some, List, [], ◌∷◌, Option}
use Rattle.std.specs.List.{find}
use Rattle.std.specs.Option.{option_map_or}
use Rattle.case_table.specs.Rows.{has_key}
use Rattle.case_table.specs.declared.Row.{Row}
use Rattle.gtpp_elements.specs.declared.element_types.TheConstants.{CANCELLED, CAUSE, COMMAND, PACKET, RECOVERY, RELEASED, RESPONDED}
use Rattle.gtpp_message.specs.Packet.{PacketValue}
use Rattle.gtpp_message.specs.declared.command.TheConstants.{CANCEL, RELEASE, SEND, SEND_POSSIBLE}
use Rattle.gtpp_message.specs.declared.message_types.TheConstants.{ECHO_REQUEST, ECHO_RESPONSE, NODE_ALIVE_REQUEST, NODE_ALIVE_RESPONSE, REDIRECTION_REQUEST, REDIRECTION_RESPONSE, TRANSFER_REQUEST, TRANSFER_RESPONSE, VERSION_NOT_SUPPORTED}

-- what a Data Record Transfer Request asks: the Packet Transfer Command, and the packet or the numbers that it names
pub data TransferValue : Type 0 where
  Send : (packet : PacketValue) → TransferValue
  Possible : (packet : PacketValue) → TransferValue
  Cancel : (numbers : List ℕ) → TransferValue
  Release : (numbers : List ℕ) → TransferValue

pub data MessageValue : Type 0 where
  EchoRequest : MessageValue
  EchoResponse : (counter : ℕ) → MessageValue
  VersionNotSupported : MessageValue
  NodeAliveRequest : (address : Option (List ℕ)) → MessageValue
  NodeAliveResponse : MessageValue
  RedirectionRequest : (cause : ℕ) (to : Option (List ℕ)) → MessageValue
  RedirectionResponse : (cause : ℕ) → MessageValue
  TransferRequest : (body : TransferValue) → MessageValue
  TransferResponse : (cause : ℕ) (responded : List ℕ) → MessageValue

-- a row of the table of messages: a type, the element that a message of it must have, and a second one, 0 for none
abbrev pub row : ℕ → ℕ → ℕ → Row
row kind first second = record { key = kind; value = first; mark = second }

-- the types of messages, and what each must have; a Data Record Transfer Request must have the element of its command too
abbrev pub message_rows : List Row
message_rows =
    row ECHO_REQUEST 0 0 ∷ row ECHO_RESPONSE RECOVERY 0 ∷ row VERSION_NOT_SUPPORTED 0 0
    ∷ row NODE_ALIVE_REQUEST 0 0 ∷ row NODE_ALIVE_RESPONSE 0 0
    ∷ row REDIRECTION_REQUEST CAUSE 0 ∷ row REDIRECTION_RESPONSE CAUSE 0
    ∷ row TRANSFER_REQUEST COMMAND 0 ∷ row TRANSFER_RESPONSE CAUSE RESPONDED ∷ []

-- the Packet Transfer Commands, and the element that a request with each must have
abbrev pub command_rows : List Row
command_rows = row SEND PACKET 0 ∷ row SEND_POSSIBLE PACKET 0 ∷ row CANCEL CANCELLED 0 ∷ row RELEASE RELEASED 0 ∷ []

-- there are messages of this type
abbrev pub is_message_type : ℕ → Bool
is_message_type kind = is_some (find (has_key kind) message_rows)

-- the element that a message of this type must have, and the second one
abbrev pub first_needed : ℕ → ℕ
first_needed kind = option_map_or (λ found. found.value) (find (has_key kind) message_rows) 0

abbrev pub second_needed : ℕ → ℕ
second_needed kind = option_map_or (λ found. found.mark) (find (has_key kind) message_rows) 0

-- the element that a request with this command must have
abbrev pub command_needs : ℕ → ℕ
command_needs command = option_map_or (λ found. found.value) (find (has_key command) command_rows) 0
