-- Whether each record of a packet is filed once by all gateways together.
use Rattle.std.specs.Prelude.{◌≡◌, ℕ, ◌<◌, ◌≤◌, Bool, true, false, All, Contains, List, [], length, Option, Some, option_map, slice_get, sum_by}
use Rattle.std.specs.Option.{option_map_or}
use Rattle.gateway_answer.specs.Filed.{filed}
use Rattle.gateway_answer.specs.Once.{same_key}
use Rattle.gateway_answer.specs.declared.filing.FiledRecord.{FiledRecord}
use Rattle.gtpp_message.specs.Packet.{packet_of}
use Rattle.gw_base.specs.CdrKind.{kind_of}
use Rattle.gw_base.specs.declared.history.HistoryEntry.{HistoryEntry}
use Rattle.gw_base.specs.declared.key_state.KeyState.{KeyState}
use Rattle.gw_base.specs.declared.key_state.KeyState.TheVariants.{Held, Cancelled}
use Rattle.gw_base.specs.declared.kind.CdrKind.{CdrKind}
use Rattle.node_core.specs.Packets.{PacketState, is_resolved}
use Rattle.node_core.specs.declared.copy.PacketCopy.{PacketCopy}
use Rattle.once_core.specs.Epochs.{epoch_with, key_in, state_with, times_with}

-- the records of the packet with these octets, and how many there are
abbrev pub records_within : List ℕ → List (List ℕ)
records_within octets = option_map_or (λ form. form.records) (packet_of octets) []

abbrev pub record_count : List ℕ → ℕ
record_count octets = option_map_or (λ form. length form.records) (packet_of octets) 0

-- the kind in which they are filed
abbrev pub kind_within : List ℕ → Option CdrKind
kind_within octets = option_map (λ form. kind_of form.format form.version) (packet_of octets)

-- the copy is held, or it was cancelled
abbrev pub is_withheld : KeyState → Bool
is_withheld Held = true
is_withheld Cancelled = true
is_withheld _ = false

-- how often the record with this index was filed under the keys of these copies, which a node sent in a start, by the
-- histories of all gateways
abbrev pub filing_count : (ℕ → List HistoryEntry) → ℕ → ℕ → List PacketCopy → ℕ → ℕ
filing_count histories node start copies index =
    sum_by (λ (copy : PacketCopy). times_with node start copy.number index (histories copy.gateway)) copies

-- a record that was filed under a copy's key, in the epoch with the start
pub record IsFiledUnder (h : List HistoryEntry) (node start number : ℕ) (filing : FiledRecord) : Type 0 where
  pub epoch : ℕ
  pub begun : epoch_with node start h ≡ Some epoch
  pub kept : Contains (filed h) filing
  pub key_is : same_key filing.key (key_in node number epoch) ≡ true

-- Each record of a packet that is resolved was filed once; each record of any packet at most once; none of a copy that is
-- held or cancelled; and what was filed for a copy is the packet's record with that index, in the packet's kind.
pub record IsOnce (histories : ℕ → List HistoryEntry) (node start : ℕ) (octets : List ℕ) (packet : PacketState) : Type 0 where
  pub resolved : is_resolved packet.copies ≡ true → (index : ℕ) → index < record_count octets →
      filing_count histories node start packet.copies index ≡ 1
  pub at_most : (index : ℕ) → filing_count histories node start packet.copies index ≤ 1
  pub withheld : All (λ (copy : PacketCopy).
      is_withheld (state_with node start copy.number (histories copy.gateway)) ≡ true → (index : ℕ) →
      times_with node start copy.number index (histories copy.gateway) ≡ 0) packet.copies
  pub content : All (λ (copy : PacketCopy). (filing : FiledRecord) →
      IsFiledUnder (histories copy.gateway) node start copy.number filing →
      slice_get (records_within octets) filing.index ≡ Some filing.octets) packet.copies
  pub kind : All (λ (copy : PacketCopy). (filing : FiledRecord) →
      IsFiledUnder (histories copy.gateway) node start copy.number filing →
      kind_within octets ≡ Some filing.kind) packet.copies
