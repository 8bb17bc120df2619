-- What a node tells of its packets: it knows them by their numbers.
use Rattle.std.specs.Prelude.{ℕ, ◌==◌, ◌+◌, if◌then◌else◌, List, [], Option, option_map, slice_get}
use Rattle.std.specs.List.{find}
use Rattle.std.specs.Option.{option_map_or}
use Rattle.node_core.specs.declared.copy.PacketCopy.{PacketCopy}
use Rattle.node_core.specs.declared.counts.NodeCopy.{NodeCopy}
use Rattle.node_core.specs.declared.counts.NodeCounts.{NodeCounts}
use Rattle.node_core.specs.declared.counts.Phase.{Phase}
use Rattle.node_core.specs.declared.counts.Phase.TheVariants.{Unknown, Open, Resolved, Done}
use Rattle.node_core.specs.declared.counts.Tally.{Tally}
use Rattle.node_core.specs.Log.{done_among, resolved_among}
use Rattle.node_core.specs.Packets.{PacketState, is_done, is_resolved}
use Rattle.node_core.specs.Value.{NodeValue}

-- how many packets were submitted, became resolved and became done, by the number of all submissions, what became of
-- the packets of earlier starts, and the packets since the start
abbrev pub counted : ℕ → Tally → List PacketState → NodeCounts
counted submissions before packets = record {
  packets = submissions;
  resolved = before.resolved + resolved_among packets;
  done = before.done + done_among packets;
}

abbrev pub counts_of : NodeValue → NodeCounts
counts_of node = counted node.submissions node.before node.packets

-- the packet with this number
abbrev pub packet_numbered : List PacketState → ℕ → Option PacketState
packet_numbered packets number = find (λ (packet : PacketState). packet.number == number) packets

-- how far the node has come with a packet
abbrev pub phase_of_copies : List PacketCopy → Phase
phase_of_copies copies = if is_done copies then Done else if is_resolved copies then Resolved else Open

abbrev pub phase_among : List PacketState → ℕ → Phase
phase_among packets number =
    option_map_or (λ (packet : PacketState). phase_of_copies packet.copies) (packet_numbered packets number) Unknown

abbrev pub phase_of : NodeValue → ℕ → Phase
phase_of node number = phase_among node.packets number

-- the copies of a packet, in order of sending
abbrev pub copies_among : List PacketState → ℕ → List PacketCopy
copies_among packets number =
    option_map_or (λ (packet : PacketState). packet.copies) (packet_numbered packets number) []

-- a copy as a node tells it
abbrev pub node_copy : PacketCopy → NodeCopy
node_copy copy = record { gateway = copy.gateway; number = copy.number }

-- the k-th copy of a packet, counted from 0
abbrev pub copy_of : NodeValue → ℕ → ℕ → Option NodeCopy
copy_of node number k = option_map node_copy (slice_get (copies_among node.packets number) k)
