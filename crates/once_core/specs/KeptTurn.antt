-- The same as `Turn.antt`, as the code goes: no promise is read from here.
-- What an event makes of a world that is kept, and why it may not be allowed: the same as of the world that it stands for.
use Rattle.std.specs.Prelude.{ℕ, ◌+◌, ◌-◌, ◌≤◌, ⊤, not, nat_le, nat_lt, Bool, true, false, if◌then◌else◌, List, [], ◌∷◌, ◌++◌, length, Option, Some, None, option_map, slice_get, slice_set}
use Rattle.std.specs.Option.{option_map_or, option_or}
use Rattle.node_core.specs.Log.{Halted}
use Rattle.node_core.specs.Ticks.{tick_entries}
use Rattle.once_core.specs.Answers.{delivered, making_close, making_tick, marked}
use Rattle.once_core.specs.Beginning.{default_rules}
use Rattle.once_core.specs.Gateway.{Gateway, Moved, committing, cut, opened}
use Rattle.once_core.specs.NodeMoves.{answered_by, due_messages, heard_by, submitted_entries, with_entries}
use Rattle.once_core.specs.Redirecting.{redirected_kept}
use Rattle.once_core.specs.Standing.{NodeKept, WorldKept, quiet}
use Rattle.once_core.specs.Turn.{is_none_of, most_starts, refusing}
use Rattle.once_core.specs.World.{draft_of}
use Rattle.once_core.specs.declared.event.Event.{Event}
use Rattle.once_core.specs.declared.event.Event.TheVariants as event
use Rattle.once_core.specs.declared.event.WorldKind.{WorldKind}
use Rattle.once_core.specs.declared.event.WorldKind.TheVariants.{Earlier, NoGateway, NoNode, NoMessage, Halted, Stopped, Running, Restarts}
use Rattle.once_core.specs.declared.message.Message.{Message}
use Rattle.node_core.specs.Log as log

-- Which events are allowed.

abbrev pub no_gateway : WorldKept → ℕ → Option WorldKind
no_gateway k number = refusing (is_none_of (length k.gateways) number) NoGateway

abbrev pub is_down_at : WorldKept → ℕ → Bool
is_down_at k place = option_map_or (λ (g : Gateway). g.is_down) (slice_get k.gateways place) true

abbrev pub no_running_gateway : WorldKept → ℕ → Option WorldKind
no_running_gateway k number = option_or (no_gateway k number) (refusing (is_down_at k (number - 1)) Stopped)

abbrev pub refusal_to_open : WorldKept → ℕ → Option WorldKind
refusal_to_open k number = option_or (no_gateway k number) (refusing (not (is_down_at k (number - 1))) Running)

abbrev pub refusal_to_redirect : WorldKept → ℕ → Option ℕ → Option WorldKind
refusal_to_redirect k number None = no_running_gateway k number
refusal_to_redirect k number (Some to) = option_or (no_gateway k number) (option_or (no_gateway k to) (no_running_gateway k number))

abbrev pub no_node : WorldKept → ℕ → Option WorldKind
no_node k number = refusing (is_none_of (length k.nodes) number) NoNode

abbrev pub runs_at : WorldKept → ℕ → Bool
runs_at k place = option_map_or (λ (n : NodeKept). n.node.is_running) (slice_get k.nodes place) false

abbrev pub starts_at : WorldKept → ℕ → ℕ
starts_at k place = option_map_or (λ (n : NodeKept). n.starts) (slice_get k.nodes place) 0

abbrev pub no_running_node : WorldKept → ℕ → Option WorldKind
no_running_node k number = option_or (no_node k number) (refusing (not (runs_at k (number - 1))) Halted)

abbrev pub refusal_to_start : WorldKept → ℕ → Option WorldKind
refusal_to_start k number = option_or (no_node k number) (option_or
    (refusing (runs_at k (number - 1)) Running) (refusing (nat_le most_starts (starts_at k (number - 1))) Restarts))

abbrev pub no_message : WorldKept → ℕ → Option WorldKind
no_message k number = refusing (is_none_of (length k.messages) number) NoMessage

abbrev pub refusal_kept : WorldKept → Event → Option WorldKind
refusal_kept k (event.Submit node packet) = no_running_node k node
refusal_kept k (event.Tick node) = no_running_node k node
refusal_kept k (event.Deliver message) = no_message k message
refusal_kept k (event.Commit gateway) = no_running_gateway k gateway
refusal_kept k (event.Cut gateway keep) = no_running_gateway k gateway
refusal_kept k (event.Open gateway) = refusal_to_open k gateway
refusal_kept k (event.Halt node) = no_running_node k node
refusal_kept k (event.Start node) = refusal_to_start k node
refusal_kept k (event.Redirect gateway cause to) = refusal_to_redirect k gateway to
refusal_kept k (event.Moment now) = refusing (nat_lt now k.moment) Earlier
refusal_kept k (event.Mark gateway) = no_running_gateway k gateway
refusal_kept k (event.Close gateway) = no_running_gateway k gateway

-- a node that starts has begun before
abbrev pub HasBegun : WorldKept → Event → Type 0
HasBegun k (event.Submit node packet) = ⊤
HasBegun k (event.Tick node) = ⊤
HasBegun k (event.Deliver message) = ⊤
HasBegun k (event.Commit gateway) = ⊤
HasBegun k (event.Cut gateway keep) = ⊤
HasBegun k (event.Open gateway) = ⊤
HasBegun k (event.Halt node) = ⊤
HasBegun k (event.Start node) = 1 ≤ starts_at k (node - 1)
HasBegun k (event.Redirect gateway cause to) = ⊤
HasBegun k (event.Moment now) = ⊤
HasBegun k (event.Mark gateway) = ⊤
HasBegun k (event.Close gateway) = ⊤

-- What happens.

-- a gateway that is kept moves, and what it sends joins the messages
abbrev pub gateway_moves : WorldKept → ℕ → (Gateway → Moved) → Option Gateway → WorldKept
gateway_moves k place move None = k
gateway_moves k place move (Some g) = record k {
  gateways = slice_set k.gateways place (move g).gateway;
  messages = k.messages ++ (move g).sends;
}

abbrev pub with_gateway : WorldKept → ℕ → (Gateway → Moved) → WorldKept
with_gateway k place move = gateway_moves k place move (slice_get k.gateways place)

-- the same of a node
abbrev pub node_moves : WorldKept → ℕ → (NodeKept → NodeKept) → (NodeKept → List Message) → Option NodeKept → WorldKept
node_moves k place move sends None = k
node_moves k place move sends (Some n) = record k { nodes = slice_set k.nodes place (move n); messages = k.messages ++ sends n }

abbrev pub with_node : WorldKept → ℕ → (NodeKept → NodeKept) → (NodeKept → List Message) → WorldKept
with_node k place move sends = node_moves k place move sends (slice_get k.nodes place)

-- a gateway, or a node, that changes and sends nothing
abbrev pub gateway_changed : WorldKept → ℕ → (Gateway → Gateway) → Option Gateway → WorldKept
gateway_changed k place change None = k
gateway_changed k place change (Some g) = record k { gateways = slice_set k.gateways place (change g) }

abbrev pub with_changed_gateway : WorldKept → ℕ → (Gateway → Gateway) → WorldKept
with_changed_gateway k place change = gateway_changed k place change (slice_get k.gateways place)

abbrev pub node_changed : WorldKept → ℕ → (NodeKept → NodeKept) → Option NodeKept → WorldKept
node_changed k place change None = k
node_changed k place change (Some n) = record k { nodes = slice_set k.nodes place (change n) }

abbrev pub with_changed_node : WorldKept → ℕ → (NodeKept → NodeKept) → WorldKept
with_changed_node k place change = node_changed k place change (slice_get k.nodes place)

abbrev pub started_again : NodeKept → NodeKept
started_again n = record (with_entries (log.Began ∷ []) n) { starts = n.starts + 1 }

-- a message reaches its receiver
abbrev pub reaching : WorldKept → Message → WorldKept
reaching k m =
    if m.to_gateway then with_gateway k m.gateway (delivered default_rules k.moment quiet m)
    else with_node k m.node (λ n. heard_by n m) (λ n. answered_by n m)

abbrev pub turn_kept : WorldKept → Event → WorldKept
turn_kept k (event.Submit node packet) =
    with_changed_node k (node - 1) (λ n. with_entries (submitted_entries n.node (draft_of packet)) n)
turn_kept k (event.Tick node) =
    with_node k (node - 1) (λ n. with_entries (tick_entries n.node) n) (due_messages (node - 1))
turn_kept k (event.Deliver message) = option_map_or (reaching k) (slice_get k.messages (message - 1)) k
turn_kept k (event.Commit gateway) = with_gateway k (gateway - 1) (committing quiet)
turn_kept k (event.Cut gateway keep) = with_changed_gateway k (gateway - 1) (cut keep)
turn_kept k (event.Open gateway) = with_changed_gateway k (gateway - 1) (opened default_rules)
turn_kept k (event.Halt node) = with_changed_node k (node - 1) (with_entries (log.Halted ∷ []))
turn_kept k (event.Start node) = with_changed_node k (node - 1) started_again
turn_kept k (event.Redirect gateway cause to) =
    with_gateway k (gateway - 1) (redirected_kept (gateway - 1) cause (option_map (λ number. number - 1) to))
turn_kept k (event.Moment now) = record k { moment = now }
turn_kept k (event.Mark gateway) = with_gateway k (gateway - 1) (marked default_rules quiet (making_tick default_rules k.moment))
turn_kept k (event.Close gateway) = with_gateway k (gateway - 1) (marked default_rules quiet (making_close k.moment))
