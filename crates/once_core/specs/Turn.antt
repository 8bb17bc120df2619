-- What an event makes of a world: whether the world allows it, and what happens then.
use Rattle.std.specs.Prelude.{ℕ, ◌-◌, ◌&&◌, not, nat_le, nat_lt, Bool, true, false, if◌then◌else◌, List, [], ◌∷◌, ◌++◌, length, Option, Some, None, option_map, take, slice_get, slice_set}
use Rattle.std.specs.Option.{option_map_or, option_or}
use Rattle.gateway_answer.specs.Value.{Fortune, Whole}
use Rattle.node_core.specs.Log.{LogEntry, runs}
use Rattle.node_core.specs.Reached.{Halt, Start}
use Rattle.once_core.specs.Answers.{closing, delivered, making_tick, marked, redirected}
use Rattle.once_core.specs.Expired.{starts_in}
use Rattle.once_core.specs.Gateway.{Gateway, Moved, Rules, committing, cut, opened_holding, still}
use Rattle.once_core.specs.World.{Called, World, called, delivered_to_node, log_at, submitting, ticking}
use Rattle.once_core.specs.declared.event.Event.{Event}
use Rattle.once_core.specs.declared.event.Event.TheVariants as event
use Rattle.once_core.specs.declared.event.WorldKind.{WorldKind}
use Rattle.once_core.specs.declared.event.WorldKind.TheVariants.{Earlier, NoGateway, NoNode, NoMessage, Halted, Stopped, Running, Restarts}
use Rattle.once_core.specs.declared.message.Message.{Message}

-- Which events a world allows. Gateways, nodes and messages are counted from 1 in events.

abbrev pub refusing : Bool → WorldKind → Option WorldKind
refusing refuses kind = if refuses then Some kind else None

-- there are this many, and so none with this number
abbrev pub is_none_of : ℕ → ℕ → Bool
is_none_of count number = not (nat_lt 0 number && nat_le number count)

abbrev pub no_gateway : World → ℕ → Option WorldKind
no_gateway w number = refusing (is_none_of (length w.gateways) number) NoGateway

abbrev pub gateway_in : World → ℕ → Option Gateway
gateway_in w number = slice_get w.gateways (number - 1)

abbrev pub is_down_in : World → ℕ → Bool
is_down_in w number = option_map_or (λ (g : Gateway). g.is_down) (gateway_in w number) true

-- the gateway isn't there, or is stopped
abbrev pub no_running_gateway : World → ℕ → Option WorldKind
no_running_gateway w number = option_or (no_gateway w number) (refusing (is_down_in w number) Stopped)

abbrev pub no_node : World → ℕ → Option WorldKind
no_node w number = refusing (is_none_of (length w.nodes) number) NoNode

abbrev pub log_in : World → ℕ → List LogEntry
log_in w number = log_at w (number - 1)

-- the node isn't there, or is halted
abbrev pub no_running_node : World → ℕ → Option WorldKind
no_running_node w number = option_or (no_node w number) (refusing (not (runs (log_in w number))) Halted)

-- a node's counter of starts is one octet
abbrev pub most_starts : ℕ
most_starts = 255

abbrev pub refusal_to_start : World → ℕ → Option WorldKind
refusal_to_start w number = option_or (no_node w number) (option_or
    (refusing (runs (log_in w number)) Running) (refusing (nat_le most_starts (starts_in (log_in w number))) Restarts))

abbrev pub refusal_to_redirect : World → ℕ → Option ℕ → Option WorldKind
refusal_to_redirect w number None = no_running_gateway w number
refusal_to_redirect w number (Some to) = option_or (no_gateway w number) (option_or (no_gateway w to) (no_running_gateway w number))

-- why the world doesn't allow an event, by the first reason that holds
abbrev pub refusal_of : World → Event → Option WorldKind
refusal_of w (event.Submit node packet) = no_running_node w node
refusal_of w (event.Tick node) = no_running_node w node
refusal_of w (event.Deliver message) = refusing (is_none_of (length w.messages) message) NoMessage
refusal_of w (event.Commit gateway) = no_running_gateway w gateway
refusal_of w (event.Cut gateway keep) = no_running_gateway w gateway
refusal_of w (event.Open gateway) = option_or (no_gateway w gateway) (refusing (not (is_down_in w gateway)) Running)
refusal_of w (event.Halt node) = no_running_node w node
refusal_of w (event.Start node) = refusal_to_start w node
refusal_of w (event.Redirect gateway cause to) = refusal_to_redirect w gateway to
refusal_of w (event.Moment now) = refusing (nat_lt now w.now) Earlier
refusal_of w (event.Mark gateway) = no_running_gateway w gateway
refusal_of w (event.Close gateway) = no_running_gateway w gateway

-- What happens.

-- a turn: an event; what the device does to the commit, or the opening again, that it needs; whether all that it sends
-- is lost, so that it never joins the messages; and of an Open, how many entries the machine holds that opens, where that
-- is another one than stopped
pub record Turn : Type 0 where
  pub event : Event
  pub fortune : Fortune
  pub is_lost : Bool
  pub held : Option ℕ

-- a gateway moves, and what it sends joins the messages
abbrev pub gateway_moved : World → ℕ → Moved → World
gateway_moved w place moved =
    record w { gateways = slice_set w.gateways place moved.gateway; messages = w.messages ++ moved.sends }

abbrev pub at_gateway : World → ℕ → (Gateway → Moved) → World
at_gateway w place move = option_map_or (λ g. gateway_moved w place (move g)) (slice_get w.gateways place) w

abbrev pub node_called : World → ℕ → Called → World
node_called w place call = record w { nodes = slice_set w.nodes place call.log; messages = w.messages ++ call.sends }

abbrev pub at_node : World → ℕ → (List LogEntry → Called) → World
at_node w place call = option_map_or (λ log. node_called w place (call log)) (slice_get w.nodes place) w

abbrev pub delivering : Rules → Fortune → World → Message → World
delivering rules f w m =
    if m.to_gateway then at_gateway w m.gateway (delivered rules w.now f m)
    else at_node w m.node (delivered_to_node (length w.gateways) m.node m)

abbrev pub turn_by : Rules → World → Turn → Event → World
turn_by rules w t (event.Submit node packet) = at_node w (node - 1) (submitting (length w.gateways) (node - 1) packet)
turn_by rules w t (event.Tick node) = at_node w (node - 1) (ticking (length w.gateways) (node - 1))
turn_by rules w t (event.Deliver message) = option_map_or (delivering rules t.fortune w) (slice_get w.messages (message - 1)) w
turn_by rules w t (event.Commit gateway) = at_gateway w (gateway - 1) (committing t.fortune)
turn_by rules w t (event.Cut gateway keep) = at_gateway w (gateway - 1) (λ g. still (cut keep g))
turn_by rules w t (event.Open gateway) = at_gateway w (gateway - 1) (λ g. still (opened_holding t.held rules g))
turn_by rules w t (event.Halt node) = at_node w (node - 1) (called (length w.gateways) (node - 1) Halt)
turn_by rules w t (event.Start node) = at_node w (node - 1) (called (length w.gateways) (node - 1) Start)
turn_by rules w t (event.Redirect gateway cause to) =
    at_gateway w (gateway - 1) (redirected (gateway - 1) cause (option_map (λ number. number - 1) to))
turn_by rules w t (event.Moment now) = record w { now = now }
turn_by rules w t (event.Mark gateway) = at_gateway w (gateway - 1) (marked rules t.fortune (making_tick rules w.now))
turn_by rules w t (event.Close gateway) = at_gateway w (gateway - 1) (marked rules t.fortune (closing rules w.now))

-- where all that a turn sends is lost, the messages are those that were there before
abbrev pub lost_if : Bool → World → World → World
lost_if true before after = record after { messages = take (length before.messages) after.messages }
lost_if false before after = after

-- the world after a turn: as it was, where it doesn't allow the event
abbrev pub unless_refused : Option WorldKind → World → World → World
unless_refused None before after = after
unless_refused (Some kind) before after = before

abbrev pub turn : Rules → World → Turn → World
turn rules w t = unless_refused (refusal_of w t.event) w (lost_if t.is_lost w (turn_by rules w t t.event))

-- A turn by rules of its own, so that whatever a gateway asks its rules there is an arbitrary yes or no.
pub record RuledTurn : Type 0 where
  pub rules : Rules
  pub turn : Turn

abbrev pub ruled : Rules → Turn → RuledTurn
ruled rules t = record { rules = rules; turn = t }

-- the world after some turns, one after the other, each by its own rules
abbrev pub ruled_turns : World → List RuledTurn → World
ruled_turns w [] = w
ruled_turns w (t ∷ later) = ruled_turns (turn t.rules w t.turn) later

-- the same where all go by the same rules
abbrev pub turns : Rules → World → List Turn → World
turns rules w [] = w
turns rules w (t ∷ later) = turns rules (turn rules w t) later

-- an event with which no device fails and nothing is lost
abbrev pub calm : Event → Turn
calm e = record { event = e; fortune = record { fails = false; reopening = Whole }; is_lost = false; held = None }
