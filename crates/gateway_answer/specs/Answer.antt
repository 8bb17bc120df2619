-- What a gateway answers to a datagram, by what is observed of its history (3GPP TS 32.295, clauses 5.1.3 and 6.2), and
-- the act that the answer records. Which cause is answered, and the limits, are this project's profile.
use Rattle.std.specs.Prelude.{ℕ, Bool, true, false, ◌&&◌, if◌then◌else◌, List, [], ◌∷◌, map, Option, Some, None}
use Rattle.std.specs.Option.{option_map}
use Rattle.gtpp_message.specs.Message.{MessageValue, TransferValue, Send, Possible, Cancel, Release, TransferResponse, VersionNotSupported}
use Rattle.gtpp_message.specs.Packet.{packet_octets}
use Rattle.gtpp_message.specs.PathMessages.{path_message, path_number}
use Rattle.gtpp_message.specs.Writing.{written}
use Rattle.gtpp_message.specs.declared.reading.Why.{Why}
use Rattle.gtpp_message.specs.declared.reading.Why.TheVariants.{Device, NoRoom, Stray}
use Rattle.gw_base.specs.Nearest.{nearest}
use Rattle.gw_base.specs.Observed.{Observed}
use Rattle.gw_base.specs.declared.address.Addr.{Addr}
use Rattle.gw_base.specs.declared.address.NodeId.{NodeId}
use Rattle.gw_base.specs.declared.cause.TheConstants.{NO_RESOURCES, SYSTEM_FAILURE}
use Rattle.gw_base.specs.declared.history.HistoryAct.{HistoryAct}
use Rattle.gw_base.specs.declared.history.HistoryAct.TheVariants as act
use Rattle.path_mgmt.specs.GatewayPath.{heard_at_gateway}
use Rattle.path_mgmt.specs.declared.event.PathAnswer.{PathAnswer}
use Rattle.path_mgmt.specs.declared.event.PathEvent.{PathEvent}
use Rattle.transfer_cmd.specs.Lists.{verdict_cause, verdict_of}
use Rattle.transfer_cmd.specs.Table.{answer_cause, state_given}
use Rattle.transfer_cmd.specs.declared.decision.Ask.{Ask}
use Rattle.gateway_index.specs.Limits.{within_limits}
use Rattle.gateway_answer.specs.Asked.{changes, held_ones, recorded_as, sending, sending_again}
use Rattle.gateway_answer.specs.Preparing.{PreparedValue, Drop, OtherVersion, Refused, Path, Request}

-- what is answered: nothing, or a message under a sequence number, and the act that is recorded with it
pub data Given : Type 0 where
  Drops : (why : Why) → Given
  Replies : (number : ℕ) (message : MessageValue) (act : Option HistoryAct) → Given

-- a node is known by its IPv4 address alone
abbrev pub node_of : Addr → NodeId
node_of from = record { 0 = from.ip }

-- the response to the request with this sequence number
abbrev pub responding : ℕ → ℕ → Option HistoryAct → Given
responding number cause act = Replies number (TransferResponse cause (number ∷ [])) act

-- Which acts may be recorded is an arbitrary yes or no, `may`. At a gateway that runs it is this: an act may be
-- recorded where it is within the limits and there is room for it.
abbrev pub may_record : Observed → (HistoryAct → Bool) → HistoryAct → Bool
may_record o room act = within_limits o act && room act

-- the answer that calls for an entry; where that may not be recorded, no resources are available
abbrev pub recording : (HistoryAct → Bool) → ℕ → ℕ → HistoryAct → Given
recording may number cause act =
    if may act then responding number cause (Some act) else responding number NO_RESOURCES None

-- the answer by a table, which calls for an entry or not
abbrev pub tabled : (HistoryAct → Bool) → ℕ → ℕ → Option HistoryAct → Given
tabled may number cause None = responding number cause None
tabled may number cause (Some act) = recording may number cause act

-- Requests that send a packet.

-- the answer by the state of the number that the request's sequence number means
abbrev pub sent : Observed → (HistoryAct → Bool) → NodeId → ℕ → Ask → List ℕ → Given
sent o may node number asked packet =
    let meant = nearest o.top number in
    tabled may number (answer_cause asked (o.state meant)) (recorded_as asked node meant packet (state_given asked (o.state meant)))

-- Requests that name a list of numbers.

-- the answer to a list of the numbers that were meant, to release or else to cancel their packets
abbrev pub judged : Observed → (HistoryAct → Bool) → NodeId → ℕ → Bool → List ℕ → Given
judged o may node number release numbers =
    let verdict = verdict_of release (map o.state numbers) in
    tabled may number (verdict_cause verdict) (changes verdict release node (held_ones o numbers))

abbrev pub listed : Observed → (HistoryAct → Bool) → NodeId → ℕ → Bool → List ℕ → Given
listed o may node number release numbers = judged o may node number release (map (nearest o.top) numbers)

-- the answer to a request with this sequence number
abbrev pub asked_by : Observed → (HistoryAct → Bool) → NodeId → ℕ → TransferValue → Given
asked_by o may node number (Send packet) = sent o may node number (sending packet) (packet_octets packet)
asked_by o may node number (Possible packet) = sent o may node number (sending_again packet) (packet_octets packet)
asked_by o may node number (Release numbers) = listed o may node number true numbers
asked_by o may node number (Cancel numbers) = listed o may node number false numbers

-- Path management.

-- the message that tells an event goes back; a message that tells a gateway nothing isn't sent to it
abbrev pub replying : Option PathEvent → Option HistoryAct → Given
replying (Some event) act = Replies (path_number event) (path_message event None) act
replying None act = Drops Stray

-- where a counter opens a new epoch of the sender, its Path is recorded, or nothing is answered
abbrev pub opening_epoch : (HistoryAct → Bool) → Addr → Option PathEvent → Option ℕ → Given
opening_epoch may from reply None = replying reply None
opening_epoch may from reply (Some counter) =
    let path = act.Path (node_of from) from.port counter in
    if may path then replying reply (Some path) else Drops NoRoom

abbrev pub heard : (HistoryAct → Bool) → Addr → PathAnswer → Given
heard may from answer = opening_epoch may from answer.reply answer.changed

-- the answer to a message of path management, by the counter that opened the sender's present epoch
abbrev pub path_given : Observed → (HistoryAct → Bool) → Addr → PathEvent → Given
path_given o may from event = heard may from (heard_at_gateway (option_map (λ path. path.counter) o.opening) event o.own)

-- The answer to what was made of a datagram from this sender, by what is observed of the history for the sender's node,
-- where `may` tells which acts may be recorded.
abbrev pub answer_by : Observed → Addr → PreparedValue → (HistoryAct → Bool) → Given
answer_by o from (Drop why) may = Drops why
answer_by o from (OtherVersion number) may = Replies number VersionNotSupported None
answer_by o from (Refused cause number) may = responding number cause None
answer_by o from (Path event) may = path_given o may from event
answer_by o from (Request number body) may = asked_by o may (node_of from) number body

-- The answer of a gateway that runs, where `room` tells which acts there is room for.
abbrev pub answer_within : Observed → Addr → PreparedValue → (HistoryAct → Bool) → Given
answer_within o from datagram room = answer_by o from datagram (may_record o room)

-- The answer where the device fails before any other is made: a request fails, and all else is dropped.
abbrev pub failure_answer : PreparedValue → Given
failure_answer (Drop why) = Drops Device
failure_answer (OtherVersion number) = Drops Device
failure_answer (Refused cause number) = responding number SYSTEM_FAILURE None
failure_answer (Path event) = Drops Device
failure_answer (Request number body) = responding number SYSTEM_FAILURE None

-- What an answer comes to: nothing is sent, or these octets, and the act that is recorded with them.
pub data Decided : Type 0 where
  Silent : (why : Why) → Decided
  Says : (octets : List ℕ) (act : Option HistoryAct) → Decided

abbrev pub decided : Given → Decided
decided (Drops why) = Silent why
decided (Replies number message act) = Says (written number message) act

-- the octets that go back, where any do
abbrev pub reply_in : Decided → Option (List ℕ)
reply_in (Silent why) = None
reply_in (Says octets act) = Some octets

-- what goes back where the device fails
abbrev pub failure_reply : PreparedValue → Option (List ℕ)
failure_reply datagram = reply_in (decided (failure_answer datagram))
