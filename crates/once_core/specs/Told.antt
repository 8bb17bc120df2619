-- What the requests and the answers among the messages of a world tell for certain, and of which packets the records
-- are that its gateways filed.
use Rattle.std.specs.Prelude.{◌≡◌, ℕ, true, Contains, Some, slice_get}
use Rattle.gateway_answer.specs.declared.filing.FiledRecord.{FiledRecord}
use Rattle.gw_base.specs.CdrKind.{kind_of}
use Rattle.gw_base.specs.declared.cause.TheConstants.{ALREADY_FULFILLED}
use Rattle.gw_base.specs.declared.key_state.KeyState.TheVariants as state
use Rattle.node_core.specs.Choosing.{IsChoice}
use Rattle.node_core.specs.Copies.{is_fulfilled, told}
use Rattle.node_core.specs.declared.copy.Command.{Command}
use Rattle.node_core.specs.declared.copy.Order.TheVariants.{Release}
use Rattle.node_core.specs.declared.copy.PacketCopy.{PacketCopy}
use Rattle.node_core.specs.declared.copy.Verdict.TheVariants as verdict
use Rattle.node_core.specs.declared.port.Port.TheVariants.{Second}
use Rattle.once_core.specs.Addresses.{node_ip}
use Rattle.once_core.specs.Followed.{Followed, packets_in}
use Rattle.once_core.specs.Following.{MaySend}
use Rattle.once_core.specs.Happenings.{Answers, Asks, Letter, Orders, Request}
use Rattle.once_core.specs.Meaning.{letter_of, meaning_of}
use Rattle.once_core.specs.Once.{IsFiledFor, IsFollowed, firm_in}
use Rattle.once_core.specs.Resting.{IsState}
use Rattle.once_core.specs.Scenes.{is_telling}
use Rattle.once_core.specs.Shown.{values_of}
use Rattle.once_core.specs.World.{World, log_at}
use Rattle.once_core.specs.declared.message.Message.{Message}

-- a request that goes between the same ends as a message, under its number
abbrev pub asking : Message → Request → Letter
asking m request = record (letter_of m) { says = Asks request }

-- the node's packets of that start are such that it may send this request: it is of a copy of one of them, by the
-- copy's gateway and number, and a copy bears its packet's octets
abbrev pub IsOfCopy : World → Message → Request → Type 0
IsOfCopy w m request =
    MaySend (packets_in m.start (log_at w m.node)) (values_of (log_at w m.node)) (asking m request) (Asks request)

-- an answer answers some request of a copy
pub record AnswersACopy (w : World) (m : Message) : Type 0 where
  pub request : Request
  pub of : IsOfCopy w m request

-- No message means a copy that its node didn't send: each request is of a copy, and so is the request that an answer
-- answers, where the answer tells a node something.
pub record MeanCopies (w : World) : Type 0 where
  pub asked : (m : Message) (request : Request) → Contains w.messages m → meaning_of m ≡ Asks request →
      IsOfCopy w m request
  pub answered : (m : Message) (cause : ℕ) → Contains w.messages m → meaning_of m ≡ Answers cause →
      is_telling cause ≡ true → AnswersACopy w m

-- an answer among the messages, from the gateway of a copy of a packet, in the packet's start, to the request with this
-- number
pub record IsAnswerFor (w : World) (m : Message) (packet : Followed) (copy : PacketCopy)
    (number cause : ℕ) : Type 0 where
  pub kept : Contains w.messages m
  pub says : meaning_of m ≡ Answers cause
  pub followed : IsFollowed w m.node packet
  pub copy_is : Contains packet.state.copies copy
  pub start : m.start ≡ packet.start
  pub gateway : m.gateway ≡ copy.gateway
  pub number_is : m.number ≡ number

-- What an answer tells of a copy is so in the firm part of its gateway's history: of a plain copy that it is filed, and
-- of any copy, plain or not, that it is sealed, by the port and the cause; and of a copy for which a release was sent,
-- that it is released. A test goes from the second port. Where it is answered by 253 its copy is filed, be it plain or
-- a duplicate.
pub record TellStates (w : World) : Type 0 where
  pub filed : (m : Message) (packet : Followed) (copy : PacketCopy) (cause : ℕ) →
      IsAnswerFor w m packet copy copy.number cause → copy.is_plain ≡ true → told m.port true cause ≡ verdict.Filed →
      IsState (firm_in w copy.gateway) (node_ip m.node) packet.start copy.number state.Filed
  pub filed_by_test : (m : Message) (packet : Followed) (copy : PacketCopy) →
      IsAnswerFor w m packet copy copy.number ALREADY_FULFILLED → m.port ≡ Second →
      IsState (firm_in w copy.gateway) (node_ip m.node) packet.start copy.number state.Filed
  pub sealed : (m : Message) (packet : Followed) (copy : PacketCopy) (cause : ℕ) →
      IsAnswerFor w m packet copy copy.number cause → told m.port true cause ≡ verdict.Sealed →
      IsState (firm_in w copy.gateway) (node_ip m.node) packet.start copy.number state.Sealed
  pub released : (m : Message) (packet : Followed) (copy : PacketCopy) (command : Command) (cause : ℕ) →
      IsAnswerFor w m packet copy command.number cause → copy.command ≡ Some command → command.order ≡ Release →
      is_fulfilled cause ≡ true →
      IsState (firm_in w copy.gateway) (node_ip m.node) packet.start copy.number state.Released

-- a release of a number at a gateway is of the chosen copy of a packet, whose first copy is sealed in the firm part of
-- that one's gateway
pub record NamesChoice (w : World) (m : Message) (named : ℕ) : Type 0 where
  pub packet : Followed
  pub followed : IsFollowed w m.node packet
  pub start : packet.start ≡ m.start
  pub choice : IsChoice packet.state.copies m.gateway named
  pub sealed : IsState (firm_in w choice.plain.gateway) (node_ip m.node) m.start choice.plain.number state.Sealed

-- each release among the messages names the chosen copy of a packet
abbrev pub NameChoices : World → Type 0
NameChoices w = (m : Message) (named : ℕ) → Contains w.messages m → meaning_of m ≡ Asks (Orders Release named) →
    NamesChoice w m named

-- a record that the gateway in this place filed was filed for a copy that a node sent it, and is the record with its
-- index of the packet that was submitted there, in the packet's kind
pub record WasSubmitted (w : World) (place : ℕ) (filing : FiledRecord) : Type 0 where
  pub node : ℕ
  pub packet : Followed
  pub copy : PacketCopy
  pub followed : IsFollowed w node packet
  pub gateway_is : copy.gateway ≡ place
  pub filed_for : IsFiledFor (firm_in w copy.gateway) node packet copy filing
  pub octets : slice_get packet.form.records filing.index ≡ Some filing.octets
  pub kind : filing.kind ≡ kind_of packet.form.format packet.form.version
