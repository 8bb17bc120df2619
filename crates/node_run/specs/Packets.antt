-- The packets that a node sends of itself, and when it takes one more.
use Rattle.std.specs.Prelude.{ℕ, zero, suc, ◌+◌, ◌-◌, ◌%◌, Bool, if◌then◌else◌, is_none, map}
use Rattle.std.specs.List.{range_with_len}
use Rattle.gtpp_message.specs.Packet.{PacketForm}
use Rattle.node_core.specs.Log.{Submitted}
use Rattle.node_core.specs.Submitting.{refusal}
use Rattle.node_core.specs.Value.{NodeValue, befell}
use Rattle.world_script.specs.Sample.{record_octets}

-- The packet with this number, counted from 0: of format 1 and version 0600, with one record to five. It is the packet
-- with this number of a sample.
abbrev pub packet_form : ℕ → PacketForm
packet_form n = record {
  format = 1;
  version = 0x0600;
  records = map (record_octets n) (range_with_len 0 (1 + n % 5));
}

-- the next packet of a node: so many were submitted before it
abbrev pub next_form : NodeValue → PacketForm
next_form node = packet_form node.submissions

-- the node takes its next packet: fewer than 64 are open, and no gateway's numbers are used up
abbrev pub takes_next : NodeValue → Bool
takes_next node = is_none (refusal node (next_form node))

-- the node once it has taken its next packet
abbrev pub with_next : NodeValue → NodeValue
with_next node = befell (Submitted (next_form node)) node

-- the node once it has taken as many more of these packets as it takes, one after the other
abbrev pub filled_by : ℕ → NodeValue → NodeValue
filled_by zero node = node
filled_by (suc left) node = if takes_next node then filled_by left (with_next node) else node

-- the same of so many packets in all
abbrev pub filled : ℕ → NodeValue → NodeValue
filled packets node = filled_by (packets - node.submissions) node
