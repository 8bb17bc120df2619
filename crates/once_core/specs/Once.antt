-- Whether each record of each packet is filed once, over all gateways and all copies of the packet.
use Rattle.std.specs.Prelude.{◌≡◌, ℕ, true, List, [], Option, Some, Contains, slice_get}
use Rattle.std.specs.Option.{option_map_or}
use Rattle.gw_base.specs.CdrKind.{kind_of}
use Rattle.gw_base.specs.declared.history.HistoryEntry.{HistoryEntry}
use Rattle.gateway_answer.specs.Filed.{filed}
use Rattle.gateway_answer.specs.Once.{is_record_of}
use Rattle.gateway_answer.specs.declared.filing.FiledRecord.{FiledRecord}
use Rattle.node_core.specs.Drafts.{value_octets}
use Rattle.node_core.specs.declared.copy.PacketCopy.{PacketCopy}
use Rattle.once_core.specs.Addresses.{node_ip}
use Rattle.once_core.specs.Epochs.{epoch_with, key_in}
use Rattle.once_core.specs.FiledOnce.{IsOnce, records_within}
use Rattle.once_core.specs.Followed.{Followed, all_followed}
use Rattle.once_core.specs.Gateway.{Gateway}
use Rattle.once_core.specs.World.{World, log_at}

-- the firm part of the history of the gateway in this place
abbrev pub firm_in : World → ℕ → List HistoryEntry
firm_in w place = option_map_or (λ (g : Gateway). g.book.firm) (slice_get w.gateways place) []

-- the node in this place followed the packet, in any of its starts
abbrev pub IsFollowed : World → ℕ → Followed → Type 0
IsFollowed w node packet = Contains (all_followed (log_at w node)) packet

-- A record that a node was given, by numbers from 0: which node, which packet of all that it ever followed, in order,
-- and which record of the packet. Two packets with the same records are two packets.
pub record GivenRecord : Type 0 where
  pub node : ℕ
  pub packet : ℕ
  pub index : ℕ

-- its packet
abbrev pub packet_with : World → GivenRecord → Option Followed
packet_with w given = slice_get (all_followed (log_at w given.node)) given.packet

-- what a gateway filed under the key of a copy of a packet, which the node in this place sent in a start
pub record IsFiledFor (h : List HistoryEntry) (node : ℕ) (packet : Followed) (copy : PacketCopy) (filing : FiledRecord) : Type 0 where
  pub copy_is : Contains packet.state.copies copy
  pub epoch : ℕ
  pub begun : epoch_with (node_ip node) packet.start h ≡ Some epoch
  pub kept : Contains (filed h) filing
  pub key_is : is_record_of (key_in (node_ip node) copy.number epoch) filing.index filing ≡ true

-- what a gateway filed for a record, under the key of a copy of the record's packet
pub record IsFiledAs (w : World) (gateway : ℕ) (filing : FiledRecord) (given : GivenRecord) : Type 0 where
  pub packet : Followed
  pub packet_is : packet_with w given ≡ Some packet
  pub copy : PacketCopy
  pub gateway_is : copy.gateway ≡ gateway
  pub is : IsFiledFor (firm_in w gateway) given.node packet copy filing
  pub index_is : filing.index ≡ given.index

-- Of each packet that was ever resolved each record is filed exactly once, and of any other packet each record at most
-- once. For a copy that is held, a stranded one too, or was cancelled nothing is filed. What is filed for a copy is its
-- packet's record with that index, in the packet's kind. The records that are spoken of are those that the node was
-- given. And nothing that is filed counts for two of them.
pub record Once (w : World) : Type 0 where
  pub placed : (node : ℕ) (packet : Followed) → IsFollowed w node packet →
      IsOnce (firm_in w) (node_ip node) packet.start (value_octets packet.form) packet.state
  pub octets : (node : ℕ) (packet : Followed) (copy : PacketCopy) (filing : FiledRecord) → IsFollowed w node packet →
      IsFiledFor (firm_in w copy.gateway) node packet copy filing → slice_get packet.form.records filing.index ≡ Some filing.octets
  pub kind : (node : ℕ) (packet : Followed) (copy : PacketCopy) (filing : FiledRecord) → IsFollowed w node packet →
      IsFiledFor (firm_in w copy.gateway) node packet copy filing →
      filing.kind ≡ kind_of packet.form.format packet.form.version
  pub records : (node : ℕ) (packet : Followed) → IsFollowed w node packet →
      records_within (value_octets packet.form) ≡ packet.form.records
  pub apart : (gateway : ℕ) (filing : FiledRecord) (one other : GivenRecord) → IsFiledAs w gateway filing one →
      IsFiledAs w gateway filing other → one ≡ other
