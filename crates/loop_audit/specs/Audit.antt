-- Whether each packet of some nodes stands once in the histories of their gateways. A packet's copies went to gateways,
-- each under a request number of its own (3GPP TS 32.295, clause 5.2: duplicated packets). A copy stands at a gateway
-- that has filed it: at once, or as the release of one that it held. Of a packet that its node knows to be filed one
-- copy has to stand, and of any other one at most.
use Rattle.std.specs.Prelude.{ℕ, ◌==◌, ◌&&◌, ◌||◌, nat_lt, if◌then◌else◌, Bool, true, false, List, map, count_by, Option, Some, None, slice_get}
use Rattle.std.specs.List.{find, flat_map}
use Rattle.std.specs.Option.{option_map_or}
use Rattle.gateway_answer.specs.Told.{key_of}
use Rattle.gateway_answer.specs.declared.key.Key.{Key}
use Rattle.gw_base.specs.declared.address.NodeId.{NodeId}
use Rattle.gw_base.specs.declared.history.HistoryEntry.{HistoryEntry}
use Rattle.gw_base.specs.declared.key_state.KeyState.{KeyState}
use Rattle.gw_base.specs.declared.key_state.KeyState.TheVariants as state
use Rattle.gw_base.specs.declared.packet.PacketId.{PacketId}
use Rattle.node_core.specs.Octets.{wire}
use Rattle.node_core.specs.Packets.{PacketState, is_resolved}
use Rattle.node_core.specs.Value.{NodeValue}
use Rattle.node_core.specs.declared.copy.PacketCopy.{PacketCopy}
use Rattle.loop_audit.specs.declared.audited.Audited.{Audited}
use Rattle.loop_audit.specs.declared.audited.Audited.TheVariants.{Fine, Wrong}

-- the records under a number were filed: at once, or when it was released
abbrev pub is_filed : KeyState → Bool
is_filed state.Fresh = false
is_filed state.Filed = true
is_filed state.Sealed = false
is_filed state.Held = false
is_filed state.Released = true
is_filed state.Cancelled = false

-- the key of a number is that of a filed copy with this number, in the epoch that began with this restart counter
abbrev pub tells_filed : ℕ → ℕ → Key → Bool
tells_filed counter number key = key.start == counter && (key.number == number && is_filed key.state)

abbrev pub id_of : NodeValue → NodeId
id_of node = record { 0 = node.address }

-- a copy of a node's packet stands at the gateway with this history
abbrev pub stands_in : NodeValue → PacketCopy → List HistoryEntry → Bool
stands_in node copy h =
    tells_filed node.paths.counter copy.number (key_of h (id_of node) (wire copy.number))

-- it stands at its gateway; gateways are places in the list of the histories
abbrev pub stands_at : List (List HistoryEntry) → NodeValue → PacketCopy → Bool
stands_at histories node copy = option_map_or (stands_in node copy) (slice_get histories copy.gateway) false

-- how many copies of a packet stand
abbrev pub places_of : List (List HistoryEntry) → NodeValue → PacketState → ℕ
places_of histories node packet = count_by (stands_at histories node) packet.copies

-- how many copies of a resolved packet have to stand, and of any other may
abbrev pub wanted : ℕ
wanted = 1

-- a packet that was looked at: how many of its copies stand, and whether its node knows it to be filed
pub record Looked : Type 0 where
  pub packet : PacketId
  pub places : ℕ
  pub must_stand : Bool

-- more copies stand than may, or none of a packet of which one has to
abbrev pub is_wrong : Looked → Bool
is_wrong looked = nat_lt wanted looked.places || (looked.places == 0 && looked.must_stand)

abbrev pub looked_at : List (List HistoryEntry) → NodeValue → PacketState → Looked
looked_at histories node packet = record {
  packet = record { node = id_of node; number = packet.number };
  places = places_of histories node packet;
  must_stand = is_resolved packet.copies;
}

-- all packets of all nodes, by node and number
abbrev pub all_looked : List (List HistoryEntry) → List NodeValue → List Looked
all_looked histories nodes = flat_map (λ (node : NodeValue). map (looked_at histories node) node.packets) nodes

abbrev pub wrong_at : Looked → Audited
wrong_at looked = Wrong looked.packet looked.places wanted

abbrev pub wrong_if : Looked → Option Audited
wrong_if looked = if is_wrong looked then Some (wrong_at looked) else None

-- the first packet that is wrong, or that none is
abbrev pub audit_of : List (List HistoryEntry) → List NodeValue → Audited
audit_of histories nodes = option_map_or wrong_at (find is_wrong (all_looked histories nodes)) Fine
