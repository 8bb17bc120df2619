-- What a tick sends, and the copies that the packets then have: each request is of one of them.
use Rattle.std.specs.Prelude.{◌≡◌, ℕ, Contains, List, Some}
use Rattle.node_core.specs.declared.copy.Command.{Command}
use Rattle.node_core.specs.declared.copy.Order.{Order}
use Rattle.node_core.specs.declared.copy.PacketCopy.{PacketCopy}
use Rattle.node_core.specs.declared.sending.Sending.{Sending}
use Rattle.node_core.specs.declared.sending.Sending.TheVariants as send
use Rattle.node_core.specs.Packets.{HasPacketWith, PacketState}

-- one of these copies is at this gateway with this number
pub record HasCopyAt (copies : List PacketCopy) (gateway number : ℕ) : Type 0 where
  pub copy : PacketCopy
  pub among : Contains copies copy
  pub gateway_is : copy.gateway ≡ gateway
  pub number_is : copy.number ≡ number

-- the packet with this number is one of these, and has such a copy
abbrev pub HasCopyOf : List PacketState → (packet gateway number : ℕ) → Type 0
HasCopyOf packets packet gateway number = HasPacketWith packets packet (λ copies. HasCopyAt copies gateway number)

-- what was sent for a copy is this release or cancel, with this number
pub record IsCommandOf (copy : PacketCopy) (order : Order) (number : ℕ) : Type 0 where
  pub command : Command
  pub sent : copy.command ≡ Some command
  pub order_is : command.order ≡ order
  pub number_is : command.number ≡ number

-- a request is of a copy of the packet that it is of: it sends the copy, plain as the copy is; tests it; or is the
-- release or the cancel that was sent for it
abbrev pub IsSent : List PacketState → Sending → Type 0
IsSent packets (send.Probe gateway number) = Unit {0}
IsSent packets (send.Data packet gateway number is_plain is_new) =
    (of : HasCopyOf packets packet gateway number) × (of.holds.copy.is_plain ≡ is_plain)
IsSent packets (send.Test packet gateway number) = HasCopyOf packets packet gateway number
IsSent packets (send.Command packet gateway named number order is_new) =
    (of : HasCopyOf packets packet gateway named) × IsCommandOf of.holds.copy order number
