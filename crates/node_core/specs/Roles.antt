-- What the request numbers of a gateway are used for: each that was drawn since the start is the number of one copy, or
-- of one release or cancel; and what a tick draws.
use Rattle.std.specs.Prelude.{◌≡◌, ◌≢◌, ℕ, ◌+◌, ◌<◌, ◌≤◌, ◌==◌, true, false, if◌then◌else◌, All, AllPairs, IfSome, List, [], ◌∷◌, length, Option, Some, None}
use Rattle.node_core.specs.declared.copy.Command.{Command}
use Rattle.node_core.specs.declared.copy.PacketCopy.{PacketCopy}
use Rattle.node_core.specs.declared.peer.Peer.{Peer}
use Rattle.node_core.specs.declared.sending.Sending.{Sending}
use Rattle.node_core.specs.declared.sending.Sending.TheVariants as send
use Rattle.node_core.specs.Packets.{PacketState}
use Rattle.node_core.specs.Peers.{next_number}
use Rattle.node_core.specs.Value.{NodeValue}

-- ---- how often a number of a gateway is used

-- the number is this one
abbrev pub use_of : ℕ → ℕ → ℕ
use_of number other = if other == number then 1 else 0

abbrev pub uses_by_command : ℕ → Option Command → ℕ
uses_by_command number None = 0
uses_by_command number (Some command) = use_of number command.number

abbrev pub uses_by_copy : ℕ → ℕ → PacketCopy → ℕ
uses_by_copy gateway number copy =
    if copy.gateway == gateway then use_of number copy.number + uses_by_command number copy.command else 0

abbrev pub uses_by_copies : ℕ → ℕ → List PacketCopy → ℕ
uses_by_copies gateway number [] = 0
uses_by_copies gateway number (copy ∷ copies) = uses_by_copy gateway number copy + uses_by_copies gateway number copies

-- how many copies, releases and cancels of these packets bear the number at the gateway
abbrev pub uses : ℕ → ℕ → List PacketState → ℕ
uses gateway number [] = 0
uses gateway number (packet ∷ packets) = uses_by_copies gateway number packet.copies + uses gateway number packets

-- each number that was drawn for a gateway has one use, and no other number has one
pub record HasOneRole (node : NodeValue) (gateway number : ℕ) : Type 0 where
  pub before : number < 65536 → uses gateway number node.packets ≡ 0
  pub drawn : 65536 ≤ number → number < next_number node.gateways gateway → uses gateway number node.packets ≡ 1
  pub behind : next_number node.gateways gateway ≤ number → uses gateway number node.packets ≡ 0

-- a number that the sending draws is at least the next one of its gateway before, and below the next one after
abbrev pub DrawsBetween : List Peer → List Peer → Sending → Type 0
DrawsBetween before after (send.Probe gateway path) = Unit {0}
DrawsBetween before after (send.Data packet gateway number is_plain is_new) =
    is_new ≡ true → (next_number before gateway ≤ number) × (number < next_number after gateway)
DrawsBetween before after (send.Test packet gateway number) = Unit {0}
DrawsBetween before after (send.Command packet gateway named number order is_new) =
    is_new ≡ true → (next_number before gateway ≤ number) × (number < next_number after gateway)

-- ---- the copies of a packet

-- the first alone is plain
abbrev pub IsPlainFirst : List PacketCopy → Type 0
IsPlainFirst [] = Unit {0}
IsPlainFirst (plain ∷ duplicates) = (plain.is_plain ≡ true) × All (λ (copy : PacketCopy). copy.is_plain ≡ false) duplicates

-- a copy went to one of the gateways, and the number of its release or cancel is above its own
pub record IsRising (gateways : List Peer) (copy : PacketCopy) : Type 0 where
  pub place : copy.gateway < length gateways
  pub command : IfSome copy.command (λ (command : Command). copy.number < command.number)

-- its copies went to as many gateways
pub record IsSingle (gateways : List Peer) (packet : PacketState) : Type 0 where
  pub plain : IsPlainFirst packet.copies
  pub apart : AllPairs (λ (one other : PacketCopy). one.gateway ≢ other.gateway) packet.copies
  pub rising : All (IsRising gateways) packet.copies
