-- What a release rests on: the first copy of the packet is sealed, and the copy that is released is the chosen one.
use Rattle.std.specs.Prelude.{◌≡◌, ℕ, true, All, List, ◌∷◌, Some}
use Rattle.node_core.specs.declared.copy.PacketCopy.{PacketCopy}
use Rattle.node_core.specs.declared.copy.Verdict.TheVariants.{Sealed}
use Rattle.node_core.specs.Copies.{is_chosen}
use Rattle.node_core.specs.Packets.{HasPacketWith, PacketState, chosen}

-- the packet's first copy is sealed, and the chosen duplicate is the one at this gateway with this number
pub record IsChoice (copies : List PacketCopy) (gateway number : ℕ) : Type 0 where
  pub plain : PacketCopy
  pub duplicates : List PacketCopy
  pub copy : PacketCopy
  pub whole : copies ≡ plain ∷ duplicates
  pub sealed : plain.verdict ≡ Sealed
  pub choice : chosen duplicates ≡ Some copy
  pub gateway_is : copy.gateway ≡ gateway
  pub number_is : copy.number ≡ number

-- one of these packets has this number, and the copy is its choice
abbrev pub IsChoiceOf : List PacketState → (packet gateway number : ℕ) → Type 0
IsChoiceOf packets packet gateway number = HasPacketWith packets packet (λ copies. IsChoice copies gateway number)

-- each copy for which a release was sent is the choice of its packet; so there is at most one
abbrev pub ReleasesChoice : PacketState → Type 0
ReleasesChoice packet = All (λ copy. is_chosen copy ≡ true → IsChoice packet.copies copy.gateway copy.number) packet.copies
