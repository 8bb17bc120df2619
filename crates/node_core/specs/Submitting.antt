-- Whether a node takes a packet: at most 64 are open, and the numbers of each gateway that open packets have stay in
-- one window of 16,384.
use Rattle.std.specs.Prelude.{ℕ, suc, min, ◌-◌, ◌==◌, nat_le, not, if◌then◌else◌, List, [], ◌∷◌, map, filter, Option, Some, None, count_by}
use Rattle.std.specs.List.{flat_map}
use Rattle.std.specs.Option.{option_or}
use Rattle.gtpp_message.specs.Packet.{PacketForm}
use Rattle.gw_base.specs.declared.packet.PacketId.{PacketId}
use Rattle.node_core.specs.declared.copy.PacketCopy.{PacketCopy}
use Rattle.node_core.specs.declared.fault.SubmitFault.{SubmitFault}
use Rattle.node_core.specs.declared.fault.SubmitFault.TheVariants.{Empty, InFlight, NumbersOut, NoMemory}
use Rattle.node_core.specs.declared.peer.Peer.{Peer}
use Rattle.node_core.specs.Drafts.{is_without_records}
use Rattle.node_core.specs.Packets.{PacketState, is_done}
use Rattle.node_core.specs.Value.{NodeValue}

-- the most open packets, and the window of their numbers
abbrev pub most_open : ℕ
most_open = 64

abbrev pub number_window : ℕ
number_window = 16384

-- how many packets are open
abbrev pub open_among : List PacketState → ℕ
open_among packets = count_by (λ packet. not (is_done packet.copies)) packets

-- the numbers of a packet's copies at a gateway; the number of a release or a cancel is above that of its copy
abbrev pub numbers_at : ℕ → List PacketCopy → List ℕ
numbers_at gateway copies = map (λ (copy : PacketCopy). copy.number) (filter (λ copy. copy.gateway == gateway) copies)

-- those of an open packet, which aren't settled
abbrev pub unsettled_at : ℕ → PacketState → List ℕ
unsettled_at gateway packet = if is_done packet.copies then [] else numbers_at gateway packet.copies

-- the least of some numbers and of one more
abbrev pub least : ℕ → List ℕ → ℕ
least number [] = number
least number (n ∷ numbers) = least (min number n) numbers

-- the least unsettled number of a gateway, or the next one where none is unsettled
abbrev pub oldest_number : ℕ → ℕ → List PacketState → ℕ
oldest_number gateway next packets = least next (flat_map (unsettled_at gateway) packets)

-- the numbers of a gateway are used up
abbrev pub out_at : ℕ → ℕ → List PacketState → Option SubmitFault
out_at gateway next packets =
    if nat_le number_window (next - oldest_number gateway next packets)
    then Some (NumbersOut gateway (oldest_number gateway next packets) next) else None

-- the first gateway, from the one at this place on, whose numbers are
abbrev pub numbers_out : ℕ → List Peer → List PacketState → Option SubmitFault
numbers_out gateway [] packets = None
numbers_out gateway (peer ∷ peers) packets =
    option_or (out_at gateway peer.next packets) (numbers_out (suc gateway) peers packets)

-- why a packet isn't taken, by the first of these that holds
abbrev pub refusal : NodeValue → PacketForm → Option SubmitFault
refusal node form =
    if is_without_records form then Some Empty
    else if nat_le most_open (open_among node.packets) then Some InFlight
    else numbers_out 0 node.gateways node.packets

-- a fault that isn't want of memory, which comes without a reason
abbrev pub refusal_of : SubmitFault → Option SubmitFault
refusal_of Empty = Some Empty
refusal_of InFlight = Some InFlight
refusal_of (NumbersOut gateway oldest next) = Some (NumbersOut gateway oldest next)
refusal_of NoMemory = None

-- the packet that is submitted next
abbrev pub next_packet : NodeValue → PacketId
next_packet node = record { node = record { 0 = node.address }; number = suc node.submissions }
