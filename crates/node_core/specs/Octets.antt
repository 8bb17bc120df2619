-- The datagrams that a node sends of its own accord (3GPP TS 32.295, clause 6.2).
use Rattle.std.specs.Prelude.{ℕ, ◌%◌, ◌-◌, suc, Bool, true, false, List, [], ◌∷◌, length, Option, Some, None, slice_get}
use Rattle.std.specs.Option.{option_map_or}
use Rattle.byteorder.specs.Endian.{big_bytes}
use Rattle.gtpp_message.specs.Message.{MessageValue, NodeAliveRequest, TransferRequest, TransferValue, Send, Possible, Cancel, Release}
use Rattle.gtpp_message.specs.Packet.{PacketValue, Empty}
use Rattle.gtpp_message.specs.Writing.{written}
use Rattle.node_core.specs.declared.copy.Order.{Order}
use Rattle.node_core.specs.declared.copy.Order.TheVariants as order
use Rattle.node_core.specs.declared.message.Outgoing.{Outgoing}
use Rattle.node_core.specs.declared.port.Port.{Port}
use Rattle.node_core.specs.declared.port.Port.TheVariants.{First, Second}
use Rattle.node_core.specs.declared.sending.Sending.{Sending}
use Rattle.node_core.specs.declared.sending.Sending.TheVariants as send
use Rattle.node_core.specs.Drafts.{packet_of_form}
use Rattle.node_core.specs.Peers.{address_at}
use Rattle.node_core.specs.Value.{NodeValue}

-- the 16 bits of a number that the wire carries
abbrev pub wire : ℕ → ℕ
wire number = number % 65536

-- what the packet with this number sends, where it was submitted since the start
abbrev pub packet_numbered : NodeValue → ℕ → PacketValue
packet_numbered node packet =
    option_map_or packet_of_form (slice_get node.forms (packet - suc (node.submissions - length node.forms))) Empty

-- a copy, plain or a possible duplicate
abbrev pub transfer_of : Bool → PacketValue → TransferValue
transfer_of true packet = Send packet
transfer_of false packet = Possible packet

-- a release or a cancel of a number
abbrev pub order_of : Order → ℕ → TransferValue
order_of order.Release number = Release (wire number ∷ [])
order_of order.Cancel number = Cancel (wire number ∷ [])

-- the message of a sending
abbrev pub message_of : NodeValue → Sending → MessageValue
message_of node (send.Probe gateway number) = NodeAliveRequest (Some (big_bytes 4 node.address))
message_of node (send.Data packet gateway number is_plain is_new) =
    TransferRequest (transfer_of is_plain (packet_numbered node packet))
message_of node (send.Test packet gateway number) = TransferRequest (Possible Empty)
message_of node (send.Command packet gateway named number order is_new) = TransferRequest (order_of order named)

-- its number, the gateway that it goes to, the port that it goes from, and the copy that it names as a release or a
-- cancel
abbrev pub number_of : Sending → ℕ
number_of (send.Probe gateway number) = number
number_of (send.Data packet gateway number is_plain is_new) = number
number_of (send.Test packet gateway number) = number
number_of (send.Command packet gateway named number order is_new) = number

abbrev pub gateway_of : Sending → ℕ
gateway_of (send.Probe gateway number) = gateway
gateway_of (send.Data packet gateway number is_plain is_new) = gateway
gateway_of (send.Test packet gateway number) = gateway
gateway_of (send.Command packet gateway named number order is_new) = gateway

abbrev pub port_of : Sending → Port
port_of (send.Probe gateway number) = First
port_of (send.Data packet gateway number is_plain is_new) = First
port_of (send.Test packet gateway number) = Second
port_of (send.Command packet gateway named number order is_new) = Second

abbrev pub named_by : Sending → Option ℕ
named_by (send.Probe gateway number) = None
named_by (send.Data packet gateway number is_plain is_new) = None
named_by (send.Test packet gateway number) = None
named_by (send.Command packet gateway named number order is_new) = Some named

-- the octets of a sending, and the datagram
abbrev pub octets_of : NodeValue → Sending → List ℕ
octets_of node sending = written (wire (number_of sending)) (message_of node sending)

abbrev pub outgoing : NodeValue → Sending → Outgoing
outgoing node sending = record {
  port = port_of sending;
  to = address_at node.gateways (gateway_of sending);
  octets = octets_of node sending;
  number = number_of sending;
  named = named_by sending;
}
