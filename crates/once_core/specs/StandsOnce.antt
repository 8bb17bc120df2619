-- Whether each record of each packet stands once in the files of all gateways.
use Rattle.std.specs.Prelude.{◌≡◌, ℕ, ◌<◌, ◌≤◌, Bool, true, false, Contains, length, Some, count_by, slice_get, sum_by}
use Rattle.std.specs.Option.{option_map_or}
use Rattle.file_writer.specs.Places.{FilePlace}
use Rattle.file_writer.specs.Streams.{Settings}
use Rattle.gateway_answer.specs.Once.{is_record_of}
use Rattle.gateway_answer.specs.declared.filing.FiledRecord.{FiledRecord}
use Rattle.gw_base.specs.CdrKind.{kind_of}
use Rattle.node_core.specs.Packets.{is_resolved}
use Rattle.node_core.specs.declared.copy.PacketCopy.{PacketCopy}
use Rattle.once_core.specs.Addresses.{node_ip}
use Rattle.once_core.specs.Epochs.{epoch_with, key_in, state_with}
use Rattle.once_core.specs.FilePlaces.{placed}
use Rattle.once_core.specs.FiledOnce.{is_withheld}
use Rattle.once_core.specs.Followed.{Followed}
use Rattle.once_core.specs.Once.{GivenRecord, IsFiledAs, firm_in, packet_with}
use Rattle.once_core.specs.World.{World}

-- at how many places of a gateway's files a record of a packet stands under the key of a copy of the packet, which went to
-- that gateway; each gateway has settings of its files of its own
abbrev pub places_of : (ℕ → Settings) → World → GivenRecord → Followed → PacketCopy → ℕ
places_of settings w given packet copy =
    let node = node_ip given.node in let h = firm_in w copy.gateway in
    option_map_or
    (λ epoch. count_by (λ x. is_record_of (key_in node copy.number epoch) given.index x.1) (placed (settings copy.gateway) h))
    (epoch_with node packet.start h) 0

-- exactly one place, or at most one
abbrev pub IsPlaced : Bool → ℕ → Type 0
IsPlaced true count = count ≡ 1
IsPlaced false count = count ≤ 1

-- what a gateway filed is one record that a node was given, and no other, octet for octet and in the packet's kind
pub record IsOfOne (w : World) (gateway : ℕ) (filing : FiledRecord) : Type 0 where
  pub given : GivenRecord
  pub is : IsFiledAs w gateway filing given
  pub octets : slice_get is.packet.form.records filing.index ≡ Some filing.octets
  pub kind : filing.kind ≡ kind_of is.packet.form.format is.packet.form.version
  pub only : (other : GivenRecord) → IsFiledAs w gateway filing other → other ≡ given

-- Each record of each packet that was ever resolved stands at exactly one place, under the key of one of the packet's
-- copies, and each record of any other packet at one at most. For a copy that is held, a stranded one too, or that was
-- cancelled none does. And what stands at a place is one record that a node was given: the files have no other.
pub record StandsOnce (settings : ℕ → Settings) (w : World) : Type 0 where
  pub once : (given : GivenRecord) (packet : Followed) → packet_with w given ≡ Some packet →
      given.index < length packet.form.records → IsPlaced (is_resolved packet.state.copies)
      (sum_by (places_of settings w given packet) packet.state.copies)
  pub withheld : (given : GivenRecord) (packet : Followed) (copy : PacketCopy) → packet_with w given ≡ Some packet →
      Contains packet.state.copies copy →
      is_withheld (state_with (node_ip given.node) packet.start copy.number (firm_in w copy.gateway)) ≡ true →
      places_of settings w given packet copy ≡ 0
  pub nothing_else : (gateway : ℕ) (place : FilePlace) (filing : FiledRecord) →
      Contains (placed (settings gateway) (firm_in w gateway)) (place, filing) → IsOfOne w gateway filing
