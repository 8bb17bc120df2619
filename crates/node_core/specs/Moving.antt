-- When the favourite moves, and where to: to the next gateway in cyclic order, or to the one that it recommends. With
-- one gateway it never moves.
use Rattle.std.specs.Prelude.{ℕ, ◌+◌, ◌%◌, ◌==◌, ◌||◌, ◌&&◌, not, nat_le, nat_lt, Bool, false, if◌then◌else◌, List, [], ◌∷◌, length, Option, Some, None}
use Rattle.std.specs.List.{list_any}
use Rattle.std.specs.Option.{option_and_then, option_or}
use Rattle.byteorder.specs.Endian.{big_number}
use Rattle.gw_base.specs.declared.cause.TheConstants.{NO_RESOURCES, SYSTEM_FAILURE}
use Rattle.path_mgmt.specs.NodePath.{is_alive}
use Rattle.node_core.specs.declared.copy.PacketCopy.{PacketCopy}
use Rattle.node_core.specs.declared.peer.Peer.{Peer}
use Rattle.node_core.specs.declared.port.Port.{Port}
use Rattle.node_core.specs.declared.port.Port.TheVariants.{First, Second}
use Rattle.node_core.specs.Copies.{is_unknown}
use Rattle.node_core.specs.Log.{LogEntry, Appointed, Saying, Path, Redirects, Responds, Other}
use Rattle.node_core.specs.Packets.{PacketState, is_done}
use Rattle.node_core.specs.Peers.{place_of}
use Rattle.node_core.specs.Value.{NodeValue, most_quiet}

-- the gateway after this one, among so many
abbrev pub next_place : ℕ → ℕ → Option ℕ
next_place size gateway = if nat_lt 1 size then Some ((gateway + 1) % size) else None

-- a gateway that is another than this one
abbrev pub another : ℕ → Option ℕ → Option ℕ
another gateway None = None
another gateway (Some place) = if place == gateway then None else Some place

-- the gateway with this address of four octets
abbrev pub place_at : List Peer → List ℕ → Option ℕ
place_at peers octets = if length octets == 4 then place_of peers (big_number 4 octets) else None

-- where a Redirection Request moves the favourite: to the recommended node, where that is another of the gateways
abbrev pub redirected : List Peer → ℕ → Option (List ℕ) → Option ℕ
redirected peers gateway to =
    option_or (another gateway (option_and_then (place_at peers) to)) (next_place (length peers) gateway)

-- a response with this cause, to what went from this port, tells that the gateway takes no packets now
abbrev pub is_refusal : Port → ℕ → Bool
is_refusal First cause = (cause == NO_RESOURCES) || (cause == SYSTEM_FAILURE)
is_refusal Second cause = false

-- where the favourite moves when a gateway says this: only what it says itself moves it
abbrev pub moved_by : NodeValue → Port → ℕ → Saying → Option ℕ
moved_by node port gateway (Path event) = None
moved_by node port gateway (Redirects to) =
    if gateway == node.favourite_place then redirected node.gateways gateway to else None
moved_by node port gateway (Responds cause numbers) =
    if (gateway == node.favourite_place) && is_refusal port cause
    then next_place (length node.gateways) gateway else None
moved_by node port gateway Other = None

-- nothing is known of an open packet's copy at this gateway
abbrev pub is_unknown_at : ℕ → PacketCopy → Bool
is_unknown_at gateway copy = (copy.gateway == gateway) && is_unknown copy.verdict

abbrev pub waits_at : ℕ → PacketState → Bool
waits_at gateway packet = not (is_done packet.copies) && list_any (is_unknown_at gateway) packet.copies

-- the favourite has been quiet, and it isn't alive or an open packet waits for it
abbrev pub is_silent : NodeValue → Bool
is_silent node =
    nat_le most_quiet node.quiet
    && (not (is_alive node.paths node.favourite_place) || list_any (waits_at node.favourite_place) node.packets)

-- where the favourite moves at the start of a tick
abbrev pub moved_at_tick : NodeValue → Option ℕ
moved_at_tick node = if is_silent node then next_place (length node.gateways) node.favourite_place else None

-- the appointment of a gateway, if one is appointed
abbrev pub appointing : Option ℕ → List LogEntry
appointing None = []
appointing (Some gateway) = Appointed gateway ∷ []

-- the favourite, and how long it has been quiet, once one is appointed or not
abbrev pub favourite_by : Option ℕ → ℕ → ℕ
favourite_by None gateway = gateway
favourite_by (Some appointed) gateway = appointed

abbrev pub quiet_by : Option ℕ → ℕ → ℕ
quiet_by None quiet = quiet
quiet_by (Some appointed) quiet = 0
