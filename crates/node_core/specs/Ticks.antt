-- What a tick makes of a node: the favourite moves where it is silent, and then the node sends what is due.
use Rattle.std.specs.Prelude.{ℕ, Bool, List, [], ◌∷◌, ◌++◌}
use Rattle.path_mgmt.specs.NodePath.{PathsOfNode, is_alive}
use Rattle.node_core.specs.declared.sending.Sending.{Sending}
use Rattle.node_core.specs.declared.peer.Peer.{Peer}
use Rattle.node_core.specs.Packets.{PacketState}
use Rattle.node_core.specs.Log.{LogEntry, Ticked}
use Rattle.node_core.specs.Moving.{appointing, moved_at_tick}
use Rattle.node_core.specs.Peers.{all_drawn}
use Rattle.node_core.specs.Sendings.{due_for_all, probes}
use Rattle.node_core.specs.Value.{NodeValue, befallen}

-- what is due where this gateway is the favourite, and alive or not: a Node Alive Request to each gateway that isn't
-- alive, and then what is due for the open packets
abbrev pub due_by : ℕ → Bool → PathsOfNode → List Peer → List PacketState → List Sending
due_by favourite up paths gateways packets =
    probes paths gateways ++ due_for_all favourite up (all_drawn (probes paths gateways) gateways) packets

-- what is due, once the favourite has moved
abbrev pub due_now : NodeValue → List Sending
due_now node =
    due_by node.favourite_place (is_alive node.paths node.favourite_place) node.paths node.gateways node.packets

-- the node once the favourite has moved
abbrev pub moved : NodeValue → NodeValue
moved node = befallen (appointing (moved_at_tick node)) node

-- what the next tick sends
abbrev pub due : NodeValue → List Sending
due node = due_now (moved node)

-- what befalls the node in a tick
abbrev pub tick_entries : NodeValue → List LogEntry
tick_entries node = appointing (moved_at_tick node) ++ Ticked (due node) ∷ []
