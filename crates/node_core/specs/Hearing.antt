-- What a node makes of a datagram: whether it is dropped, what it says, the reply, and what the node is then. What
-- isn't from a gateway is dropped before it is read.
use Rattle.std.specs.Prelude.{ℕ, Bool, not, ◌&&◌, List, [], ◌∷◌, map, Option, Some, None, option_map}
use Rattle.std.specs.List.{find}
use Rattle.gtpp_message.specs.Message.{MessageValue, EchoRequest, EchoResponse, VersionNotSupported, NodeAliveRequest, NodeAliveResponse, RedirectionRequest, RedirectionResponse, TransferRequest, TransferResponse}
use Rattle.gtpp_message.specs.PathMessages.{path_event, path_message, path_number}
use Rattle.gtpp_message.specs.Reading.{ReadingValue, Drop, Message, OtherVersion, Refused}
use Rattle.gtpp_message.specs.Role.{role_reading}
use Rattle.gtpp_message.specs.Writing.{written}
use Rattle.gtpp_message.specs.declared.reading.Why.{Why}
use Rattle.gtpp_message.specs.declared.reading.Why.TheVariants.{Stray}
use Rattle.gtpp_message.specs.declared.role.Role.TheVariants.{Node}
use Rattle.gw_base.specs.Nearest.{nearest}
use Rattle.gw_base.specs.declared.address.Addr.{Addr}
use Rattle.gw_base.specs.declared.cause.TheConstants.{ACCEPTED}
use Rattle.gw_base.specs.declared.packet.PacketId.{PacketId}
use Rattle.path_mgmt.specs.NodePath.{heard_at_node}
use Rattle.path_mgmt.specs.declared.event.PathEvent.{PathEvent}
use Rattle.node_core.specs.declared.copy.PacketCopy.{PacketCopy}
use Rattle.node_core.specs.declared.message.Heeded.{Heeded}
use Rattle.node_core.specs.declared.port.Port.{Port}
use Rattle.node_core.specs.Log.{LogEntry, Heard, Saying, Path, Redirects, Responds, Other}
use Rattle.node_core.specs.Moving.{appointing, moved_by}
use Rattle.node_core.specs.Packets.{PacketState, is_done, is_resolved, packet_hearing, while_open}
use Rattle.node_core.specs.Peers.{last_number, place_of}
use Rattle.node_core.specs.Value.{NodeValue}

-- what a message that was read is to a node: dropped, or something said, with the octets of the reply to it
pub data Taken : Type 0 where
  Dropped : (why : Why) → Taken
  Says : (saying : Saying) (reply : Option (List ℕ)) → Taken

-- the octets of an answer of path management
abbrev pub path_octets : PathEvent → List ℕ
path_octets event = written (path_number event) (path_message event None)

-- a message of path management
abbrev pub taken_of_path : ℕ → Option PathEvent → Taken
taken_of_path counter (Some event) = Says (Path event) (option_map path_octets (heard_at_node counter event).reply)
taken_of_path counter None = Dropped Stray

-- a message, by the restart counter and the last request number of the gateway
abbrev pub taken_of_message : ℕ → ℕ → ℕ → MessageValue → Taken
taken_of_message counter last number (RedirectionRequest cause to) =
    Says (Redirects to) (Some (written number (RedirectionResponse ACCEPTED)))
taken_of_message counter last number (RedirectionResponse cause) = Says Other None
taken_of_message counter last number (TransferResponse cause responded) =
    Says (Responds cause (map (nearest (Some last)) responded)) None
taken_of_message counter last number EchoRequest = taken_of_path counter (path_event number EchoRequest)
taken_of_message counter last number (EchoResponse told) = taken_of_path counter (path_event number (EchoResponse told))
taken_of_message counter last number NodeAliveResponse = taken_of_path counter (path_event number NodeAliveResponse)
taken_of_message counter last number (NodeAliveRequest address) = Dropped Stray
taken_of_message counter last number VersionNotSupported = Dropped Stray
taken_of_message counter last number (TransferRequest body) = Dropped Stray

-- what was read; the one message that is refused at a node is a Redirection Request
abbrev pub taken_of : ℕ → ℕ → ReadingValue → Taken
taken_of counter last (Drop why) = Dropped why
taken_of counter last (OtherVersion kind number) = Says Other (Some (written number VersionNotSupported))
taken_of counter last (Refused kind cause number) = Says Other (Some (written number (RedirectionResponse cause)))
taken_of counter last (Message number message) = taken_of_message counter last number message

-- the octets of a datagram from a gateway
abbrev pub taken : NodeValue → ℕ → List ℕ → Taken
taken node gateway octets = taken_of node.paths.counter (last_number node.gateways gateway) (role_reading Node octets)

-- ---- what befalls the node, and what it answers

-- what befalls a node that hears this from a gateway
abbrev pub saying_entries : NodeValue → Port → ℕ → Saying → List LogEntry
saying_entries node port gateway saying = Heard port gateway saying ∷ appointing (moved_by node port gateway saying)

abbrev pub taken_entries : NodeValue → Port → ℕ → Taken → List LogEntry
taken_entries node port gateway (Dropped why) = []
taken_entries node port gateway (Says saying reply) = saying_entries node port gateway saying

abbrev pub entries_from : NodeValue → Port → Option ℕ → List ℕ → List LogEntry
entries_from node port None octets = []
entries_from node port (Some gateway) octets = taken_entries node port gateway (taken node gateway octets)

abbrev pub heard_entries : NodeValue → Port → Addr → List ℕ → List LogEntry
heard_entries node port from octets = entries_from node port (place_of node.gateways from.ip) octets

-- the first of these packets that the change makes pass a test
abbrev pub first_made : (List PacketCopy → Bool) → (PacketState → PacketState) → List PacketState → Option ℕ
first_made test change packets =
    option_map (λ (packet : PacketState). packet.number)
    (find (λ packet. not (test packet.copies) && test (change packet).copies) packets)

-- the first packet, in order of submission, that passes a test only once this is heard
abbrev pub made_by : (List PacketCopy → Bool) → NodeValue → Port → ℕ → Saying → Option ℕ
made_by test node port gateway (Path event) = None
made_by test node port gateway (Redirects to) = None
made_by test node port gateway (Responds cause numbers) =
    first_made test (while_open (packet_hearing port gateway cause numbers)) node.packets
made_by test node port gateway Other = None

abbrev pub id_of : ℕ → Option ℕ → Option PacketId
id_of address number = option_map (λ n. record { node = record { 0 = address }; number = n }) number

abbrev pub dropping : Why → Heeded
dropping why = record { reply = None; drop = Some why; resolved = None; done = None }

abbrev pub heeding : NodeValue → Port → ℕ → Taken → Heeded
heeding node port gateway (Dropped why) = dropping why
heeding node port gateway (Says saying reply) = record {
  reply = reply;
  drop = None;
  resolved = id_of node.address (made_by is_resolved node port gateway saying);
  done = id_of node.address (made_by is_done node port gateway saying);
}

abbrev pub heeds_from : NodeValue → Port → Option ℕ → List ℕ → Heeded
heeds_from node port None octets = dropping Stray
heeds_from node port (Some gateway) octets = heeding node port gateway (taken node gateway octets)

-- the reply, why it is dropped, and the first packets that become resolved and done
abbrev pub heeds : NodeValue → Port → Addr → List ℕ → Heeded
heeds node port from octets = heeds_from node port (place_of node.gateways from.ip) octets
