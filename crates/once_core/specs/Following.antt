-- What a node may do in one of its starts, by what it knows at the end of it: the words are those of node_core's laws.
use Rattle.std.specs.Prelude.{◌≡◌, ℕ, ◌≤◌, ◌==◌, Bool, if◌then◌else◌, All, Contains, List, [], ◌∷◌, ◌++◌, Some}
use Rattle.node_core.specs.Choosing.{ReleasesChoice}
use Rattle.node_core.specs.Log.{LogEntry, Heard, Responds}
use Rattle.node_core.specs.Packets.{PacketState}
use Rattle.node_core.specs.Resting.{AllRestOn}
use Rattle.node_core.specs.Roles.{IsPlainFirst, uses}
use Rattle.node_core.specs.declared.copy.Command.{Command}
use Rattle.node_core.specs.declared.copy.PacketCopy.{PacketCopy}
use Rattle.node_core.specs.declared.port.Port.TheVariants.{First, Second}
use Rattle.once_core.specs.Happenings as did
use Rattle.once_core.specs.Happenings.{Asks, Answers, Else, Sends, Tests, Orders, Deed, Letter, Meaning}

-- what a node heard in a start
abbrev pub entries_by : Letter → Meaning → List LogEntry
entries_by letter (Asks request) = []
entries_by letter (Answers cause) = Heard letter.port letter.gateway (Responds cause (letter.number ∷ [])) ∷ []
entries_by letter Else = []

abbrev pub entries_of : ℕ → Deed → List LogEntry
entries_of start (did.Sent letter) = []
entries_of start (did.Heard letter) = if letter.start == start then entries_by letter letter.says else []

abbrev pub heard_in : ℕ → List Deed → List LogEntry
heard_in start [] = []
heard_in start (deed ∷ deeds) = entries_of start deed ++ heard_in start deeds

-- one of these packets has a copy at this gateway with this number
pub record AnyHasCopyAt (packets : List PacketState) (gateway number : ℕ) : Type 0 where
  pub packet : PacketState
  pub kept : Contains packets packet
  pub copy : PacketCopy
  pub among : Contains packet.copies copy
  pub gateway_is : copy.gateway ≡ gateway
  pub number_is : copy.number ≡ number

-- a copy that is sent, plain or not as the request says, with the packet's octets
pub record IsCopySent (packets : List PacketState) (values : ℕ → List ℕ) (gateway number : ℕ) (is_plain : Bool)
    (octets : List ℕ) : Type 0 where
  pub at : AnyHasCopyAt packets gateway number
  pub plain : at.copy.is_plain ≡ is_plain
  pub packet : values at.packet.number ≡ octets

-- a release or a cancel that is sent for a copy, with a number of its own
pub record IsCommandSent (packets : List PacketState) (gateway named : ℕ) (command : Command) : Type 0 where
  pub at : AnyHasCopyAt packets gateway named
  pub sent : at.copy.command ≡ Some command

-- a request is of one of these packets: a copy goes from the first port, and all else that is asked of it from the second
abbrev pub MaySend : List PacketState → (ℕ → List ℕ) → Letter → Meaning → Type 0
MaySend packets values letter (Asks (Sends is_plain octets)) =
    (letter.port ≡ First) × IsCopySent packets values letter.gateway letter.number is_plain octets
MaySend packets values letter (Asks Tests) = (letter.port ≡ Second) × AnyHasCopyAt packets letter.gateway letter.number
MaySend packets values letter (Asks (Orders order named)) =
    (letter.port ≡ Second) × (answered : Bool)
    × IsCommandSent packets letter.gateway named (record { order = order; number = letter.number; is_answered = answered })
MaySend packets values letter (Answers cause) = Unit {0}
MaySend packets values letter Else = Unit {0}

-- What a node did, of which these are the packets of one start, with what it knows of them, and the octets of each packet
-- by its number: each request number has one role; the first copy alone is plain; a copy that is released is the chosen
-- one, and the first copy is sealed; what is known was heard; and each request is of one of the packets.
pub record Follows (deeds : List Deed) (start : ℕ) (values : ℕ → List ℕ) (packets : List PacketState) : Type 0 where
  pub roles : (gateway number : ℕ) → uses gateway number packets ≤ 1
  pub plain : All (λ packet. IsPlainFirst packet.copies) packets
  pub choice : All ReleasesChoice packets
  pub rests : All (AllRestOn (heard_in start deeds)) packets
  pub sends : (letter : Letter) → Contains deeds (did.Sent letter) → letter.start ≡ start →
      MaySend packets values letter letter.says

-- the same of what the node knows, but for what it sent
pub record Knows (deeds : List Deed) (start : ℕ) (packets : List PacketState) : Type 0 where
  pub roles : (gateway number : ℕ) → uses gateway number packets ≤ 1
  pub plain : All (λ packet. IsPlainFirst packet.copies) packets
  pub choice : All ReleasesChoice packets
  pub rests : All (AllRestOn (heard_in start deeds)) packets
