-- A packet as its node follows it, and how far the node has come with it.
use Rattle.std.specs.Prelude.{◌≡◌, ℕ, Bool, false, ◌&&◌, ◌||◌, ◌==◌, if◌then◌else◌, Contains, List, [], ◌∷◌, ◌++◌, map, Option, Some}
use Rattle.std.specs.List.{find, list_all, list_any}
use Rattle.std.specs.Option.{option_or}
use Rattle.node_core.specs.declared.copy.Command.{Command}
use Rattle.node_core.specs.declared.copy.PacketCopy.{PacketCopy}
use Rattle.node_core.specs.declared.port.Port.{Port}
use Rattle.node_core.specs.declared.sending.Sending.{Sending}
use Rattle.node_core.specs.declared.sending.Sending.TheVariants as send
use Rattle.node_core.specs.Copies.{copy_hearing, is_chosen, is_filed, is_held, is_released, is_settled, new_copy}

-- a packet: its number, counted from 1 over all starts of its node, and its copies in order of sending, the plain one
-- first
pub record PacketState : Type 0 where
  pub number : ℕ
  pub copies : List PacketCopy

-- by what its node was told, its records are filed once: the plain copy is filed, or a possible duplicate is released
abbrev pub is_resolved : List PacketCopy → Bool
is_resolved [] = false
is_resolved (plain ∷ duplicates) = is_filed plain.verdict || list_any is_released duplicates

-- it is resolved, and every other copy is out of the way
abbrev pub is_done : List PacketCopy → Bool
is_done [] = false
is_done (plain ∷ duplicates) = is_resolved (plain ∷ duplicates) && list_all is_settled duplicates

-- The duplicate that is released where the plain copy is sealed: the one that a release was sent for, else the first
-- that is held, in order of sending.
abbrev pub chosen : List PacketCopy → Option PacketCopy
chosen duplicates = option_or (find is_chosen duplicates) (find (λ copy. is_held copy.verdict) duplicates)

-- ---- what a sending and a response make of it

-- a copy for which a release or a cancel is sent, where none was sent before
abbrev pub with_command : Command → PacketCopy → PacketCopy
with_command command copy = record copy { command = option_or copy.command (Some command) }

-- the same where it is the copy at a gateway
abbrev pub commanded : ℕ → Command → PacketCopy → PacketCopy
commanded gateway command copy = if copy.gateway == gateway then with_command command copy else copy

-- the copies after a sending of the packet
abbrev pub copies_after : Sending → List PacketCopy → List PacketCopy
copies_after (send.Probe gateway number) copies = copies
copies_after (send.Data packet gateway number is_plain is_new) copies =
    if is_new then copies ++ new_copy gateway number is_plain ∷ [] else copies
copies_after (send.Test packet gateway number) copies = copies
copies_after (send.Command packet gateway named number order is_new) copies =
    if is_new then map (commanded gateway (record { order = order; number = number; is_answered = false })) copies
    else copies

-- the sending is of the packet with this number
abbrev pub is_of : ℕ → Sending → Bool
is_of number (send.Probe gateway path) = false
is_of number (send.Data packet gateway drawn is_plain is_new) = packet == number
is_of number (send.Test packet gateway drawn) = packet == number
is_of number (send.Command packet gateway named drawn order is_new) = packet == number

-- a packet after a sending, and after some in their order
abbrev pub packet_after : Sending → PacketState → PacketState
packet_after sending packet =
    if is_of packet.number sending then record packet { copies = copies_after sending packet.copies } else packet

abbrev pub packet_after_all : List Sending → PacketState → PacketState
packet_after_all [] packet = packet
packet_after_all (sending ∷ sendings) packet = packet_after_all sendings (packet_after sending packet)

-- a packet after a response
abbrev pub packet_hearing : Port → ℕ → ℕ → List ℕ → PacketState → PacketState
packet_hearing port gateway cause numbers packet =
    record packet { copies = map (copy_hearing port gateway cause numbers) packet.copies }

-- what happens to an open packet; one that is done stays as it is
abbrev pub while_open : (PacketState → PacketState) → PacketState → PacketState
while_open f packet = if is_done packet.copies then packet else f packet

-- the packet with this number is one of these, and its copies are so
pub record HasPacketWith (packets : List PacketState) (packet : ℕ) (P : List PacketCopy → Type 0) : Type 0 where
  pub state : PacketState
  pub kept : Contains packets state
  pub number_is : state.number ≡ packet
  pub holds : P state.copies
