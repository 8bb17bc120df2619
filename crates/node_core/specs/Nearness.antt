-- The numbers of open packets stay near the next one, so that the 16 bits that the wire carries tell each of them.
use Rattle.std.specs.Prelude.{◌≡◌, ℕ, ◌+◌, ◌<◌, ◌≤◌, ◌==◌, ◌⊎◌, false, if◌then◌else◌, Contains, List, [], ◌∷◌, filter, map}
use Rattle.std.specs.List.{flat_map}
use Rattle.std.specs.Option.{option_to_list}
use Rattle.node_core.specs.declared.copy.Command.{Command}
use Rattle.node_core.specs.declared.copy.PacketCopy.{PacketCopy}
use Rattle.node_core.specs.Packets.{PacketState, is_done}
use Rattle.node_core.specs.Peers.{next_number}
use Rattle.node_core.specs.Value.{NodeValue}

-- one of these packets has a copy at the gateway with this number
pub record HasCopy (packets : List PacketState) (gateway number : ℕ) : Type 0 where
  pub packet : PacketState
  pub copy : PacketCopy
  pub kept : Contains packets packet
  pub sent : Contains packet.copies copy
  pub gateway_is : copy.gateway ≡ gateway
  pub number_is : copy.number ≡ number

-- the same of one that is open
pub record HasOpenCopy (packets : List PacketState) (gateway number : ℕ) : Type 0 where
  pub packet : PacketState
  pub copy : PacketCopy
  pub kept : Contains packets packet
  pub open_yet : is_done packet.copies ≡ false
  pub sent : Contains packet.copies copy
  pub gateway_is : copy.gateway ≡ gateway
  pub number_is : copy.number ≡ number

-- behind this number another copy's number comes soon, or the next number
abbrev pub ComesSoon : NodeValue → ℕ → ℕ → Type 0
ComesSoon node gateway number =
    (next_number node.gateways gateway ≤ number + 65)
    ⊎ ((later : ℕ) × HasCopy node.packets gateway later × (number < later) × (later ≤ number + 65))

-- the number is the last one before the first that is drawn, or that of a copy
abbrev pub IsCopyOrBase : NodeValue → ℕ → ℕ → Type 0
IsCopyOrBase node gateway number = (number ≡ 65535) ⊎ HasCopy node.packets gateway number

-- ---- the least unsettled number

-- all numbers of a copy, that of its release or cancel too
abbrev pub all_numbers_of : PacketCopy → List ℕ
all_numbers_of copy = copy.number ∷ map (λ (command : Command). command.number) (option_to_list copy.command)

-- those of an open packet at a gateway
abbrev pub all_unsettled_at : ℕ → PacketState → List ℕ
all_unsettled_at gateway packet =
    if is_done packet.copies then [] else flat_map all_numbers_of (filter (λ copy. copy.gateway == gateway) packet.copies)
