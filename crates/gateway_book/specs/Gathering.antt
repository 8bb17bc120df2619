-- Items gathered one after the other.
use Rattle.std.specs.Prelude.{ℕ, ◌-◌, List, [], ◌++◌, length, map, take, drop}
use Rattle.gtpp_message.specs.Packet.{PacketValue, Empty, Full}
use Rattle.gw_base.specs.CdrKind.{kind_of}
use Rattle.gw_base.specs.declared.item.Item.{Item}
use Rattle.gw_base.specs.declared.item.Item.TheVariants.{Part}
use Rattle.gateway_answer.specs.Filed.{record_tag}

-- how many of the items that come are still left out, for how many more there is room, and those that were taken
pub record Gathered : Type 0 where
  pub skip : ℕ
  pub room : ℕ
  pub items : List Item

-- after these items
abbrev pub gathered : List Item → Gathered → Gathered
gathered more g = record {
  skip = g.skip - length more;
  room = g.room - length (drop g.skip more);
  items = g.items ++ take g.room (drop g.skip more);
}

-- the item of a record of this data record format and version, filed at a moment
abbrev pub record_item : ℕ → ℕ → ℕ → List ℕ → Item
record_item moment format version octets = Part (kind_of format version) (record_tag format octets) octets moment

-- the items of a packet that is filed at a moment
abbrev pub packet_items : ℕ → PacketValue → List Item
packet_items moment Empty = []
packet_items moment (Full form value) = map (record_item moment form.format form.version) form.records
