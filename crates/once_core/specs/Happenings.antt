-- Gateways, serving nodes and all messages ever sent, by what the messages mean: whole numbers, and no octets. What
-- happens next is anything that the network, the devices and the nodes may do.
use Rattle.std.specs.Prelude.{ℕ, ◌%◌, ◌==◌, ◌&&◌, Bool, true, false, List, [], ◌∷◌, ◌++◌}
use Rattle.gtpp_message.specs.Message.{MessageValue, TransferResponse}
use Rattle.gw_base.specs.Nearest.{nearest}
use Rattle.gw_base.specs.Observed.{Observed, observed}
use Rattle.gw_base.specs.Starts.{start_of}
use Rattle.gw_base.specs.History.{top_of}
use Rattle.gw_base.specs.declared.address.NodeId.{NodeId}
use Rattle.gw_base.specs.declared.history.Caller.{Caller}
use Rattle.gw_base.specs.declared.history.HistoryAct.{HistoryAct}
use Rattle.gw_base.specs.declared.history.HistoryAct.TheVariants as act
use Rattle.gw_base.specs.declared.history.HistoryEntry.{HistoryEntry}
use Rattle.gateway_answer.specs.Answer.{Given, Drops, Replies, listed, sent}
use Rattle.node_core.specs.declared.copy.Order.{Order}
use Rattle.node_core.specs.declared.copy.Order.TheVariants.{Release, Cancel}
use Rattle.node_core.specs.declared.port.Port.{Port}
use Rattle.transfer_cmd.specs.declared.decision.Ask.TheVariants as ask

-- what a request asks: to take a copy of a packet, plain or possibly duplicated, by the octets of its value; whether a
-- copy came, by the empty packet; to release or to cancel the copy with this number
pub data Request : Type 0 where
  Sends : (is_plain : Bool) (packet : List ℕ) → Request
  Tests : Request
  Orders : (order : Order) (named : ℕ) → Request

-- what a message says: a request of a node, the answer of a gateway to one, or anything else
pub data Meaning : Type 0 where
  Asks : (request : Request) → Meaning
  Answers : (cause : ℕ) → Meaning
  Else : Meaning

-- A message between a node and a gateway: how many starts the node had made when it sent it, or sent what this answers;
-- the node's port; and the whole number of the request.
pub record Letter : Type 0 where
  pub node : ℕ
  pub start : ℕ
  pub gateway : ℕ
  pub port : Port
  pub number : ℕ
  pub says : Meaning

-- an answer that waits until so many entries of the gateway's history are firm
pub record WaitingLetter : Type 0 where
  pub front : ℕ
  pub letter : Letter

-- a gateway: the firm part of its history, the entries behind it, which wait or are torn, and the answers that wait
pub record Post : Type 0 where
  pub firm : List HistoryEntry
  pub rest : List HistoryEntry
  pub waiting : List WaitingLetter

-- what a node did
pub data Deed : Type 0 where
  Sent : (letter : Letter) → Deed
  Heard : (letter : Letter) → Deed

-- all gateways and nodes, the nodes by their addresses, and all messages ever sent
pub record Scene : Type 0 where
  pub posts : ℕ → Post
  pub deeds : ℕ → List Deed
  pub letters : List Letter

-- an act that files nothing and names no number
pub data Note : Type 0 where
  Starts : Note
  Ticks : Note
  Closes : Note

abbrev pub act_noted : Note → HistoryAct
act_noted Starts = act.Start
act_noted Ticks = act.Tick
act_noted Closes = act.Close

-- What may happen. A node sends a request; a node hears the k-th message; the k-th message comes to its gateway, which
-- may record some acts and not others; a node's new start becomes known to a gateway; a gateway makes a note; all that
-- a gateway's history holds becomes firm; so many entries behind the firm part are left, and no answer waits any more;
-- and any message is sent that neither asks anything nor tells a node anything of a copy.
pub data Happening : Type 0 where
  Sends : (letter : Letter) → Happening
  Hears : (k : ℕ) → Happening
  Comes : (k : ℕ) (may : HistoryAct → Bool) (now : ℕ) (who : Caller) → Happening
  Opens : (gateway : ℕ) (node : NodeId) (port counter now : ℕ) (who : Caller) → Happening
  Notes : (gateway : ℕ) (note : Note) (now : ℕ) (who : Caller) → Happening
  Firms : (gateway : ℕ) → Happening
  Keeps : (gateway keep : ℕ) → Happening
  Adds : (letter : Letter) → Happening

-- ---- a gateway

abbrev pub history : Post → List HistoryEntry
history post = post.firm ++ post.rest

-- the number that a request speaks of: the one that a release or a cancel names, else its own
abbrev pub about : Request → ℕ → ℕ
about (Sends is_plain packet) number = number
about Tests number = number
about (Orders order named) number = named

-- the request is of the node's present epoch, and the number that it speaks of is read as it is meant
abbrev pub is_timely : List HistoryEntry → Letter → Request → Bool
is_timely h letter request =
    (letter.start == start_of letter.node h)
    && (nearest (top_of letter.node h) (about request letter.number % 65536) == about request letter.number)

-- what a gateway answers to a request, as it is read off the wire
abbrev pub answer_of : Observed → (HistoryAct → Bool) → NodeId → ℕ → Request → Given
answer_of o may node number (Sends true packet) = sent o may node number ask.Send packet
answer_of o may node number (Sends false packet) = sent o may node number ask.Possible packet
answer_of o may node number Tests = sent o may node number ask.Empty []
answer_of o may node number (Orders Release named) = listed o may node number true (named % 65536 ∷ [])
answer_of o may node number (Orders Cancel named) = listed o may node number false (named % 65536 ∷ [])

abbrev pub node_at : ℕ → NodeId
node_at node = record { 0 = node }

abbrev pub given : List HistoryEntry → (HistoryAct → Bool) → Letter → Request → Given
given h may letter request =
    answer_of (observed h (node_at letter.node)) may (node_at letter.node) (letter.number % 65536) request

abbrev pub cause_in : MessageValue → ℕ
cause_in (TransferResponse cause responded) = cause
cause_in _ = 0

abbrev pub cause_of : Given → ℕ
cause_of (Drops why) = 0
cause_of (Replies number message recorded) = cause_in message

-- the answer, to where the request came from
abbrev pub reply : Letter → Given → Letter
reply letter answer = record letter { says = Answers (cause_of answer) }
