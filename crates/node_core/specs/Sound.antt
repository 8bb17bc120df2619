-- What holds of every node (steps of the proof).
use Rattle.std.specs.Prelude.{◌≡◌, ℕ, suc, ◌≤◌, Bool, true, List, [], ◌∷◌, length, take}
use Rattle.node_core.specs.declared.peer.Peer.{Peer}
use Rattle.node_core.specs.Packets.{PacketState, is_done, packet_after_all}
use Rattle.node_core.specs.Peers.{all_drawn}
use Rattle.node_core.specs.Sendings.{due_for}

-- all of these packets are done
abbrev pub AllDone : List PacketState → Type 0
AllDone [] = Unit {0}
AllDone (packet ∷ packets) = (is_done packet.copies ≡ true) × AllDone packets

-- the packets bear the numbers that follow one
abbrev pub AreNumbered : ℕ → List PacketState → Type 0
AreNumbered before [] = Unit {0}
AreNumbered before (packet ∷ packets) = (packet.number ≡ suc before) × AreNumbered (suc before) packets

-- the packets after a tick, each after what is due for it
abbrev pub planned : ℕ → Bool → List Peer → List PacketState → List PacketState
planned favourite up peers [] = []
planned favourite up peers (packet ∷ packets) =
    packet_after_all (due_for favourite up peers packet) packet
    ∷ planned favourite up (all_drawn (due_for favourite up peers packet) peers) packets

-- the packets since the start, and how many in front are known to be done
pub record KeptPackets : Type 0 where
  pub packets : List PacketState
  pub settled : ℕ

-- those in front are
pub record IsSettled (kept : KeptPackets) : Type 0 where
  pub within : kept.settled ≤ length kept.packets
  pub done : AllDone (take kept.settled kept.packets)
