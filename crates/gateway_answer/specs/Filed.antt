-- The records that a gateway's history files, in order.
use Rattle.std.specs.Prelude.{ℕ, ◌==◌, if◌then◌else◌, List, [], ◌∷◌, ◌++◌, map, Option, Some, None, option_and_then}
use Rattle.std.specs.List.{enumerate_from, flat_map}
use Rattle.std.specs.Option.{option_map_or}
use Rattle.ber_frame.specs.Reading.{front_tag}
use Rattle.gtpp_message.specs.Packet.{PacketForm, packet_of}
use Rattle.gw_base.specs.CdrKind.{kind_of}
use Rattle.gw_base.specs.History.{epoch_of, last_naming, present_entries}
use Rattle.gw_base.specs.Lists.{once}
use Rattle.gw_base.specs.declared.address.NodeId.{NodeId}
use Rattle.gw_base.specs.declared.history.HistoryAct.{HistoryAct}
use Rattle.gw_base.specs.declared.history.HistoryAct.TheVariants.{File, Hold, Release}
use Rattle.gw_base.specs.declared.history.HistoryEntry.{HistoryEntry}
use Rattle.gw_base.specs.declared.history.PacketKey.{PacketKey}
use Rattle.gw_base.specs.declared.tag.Tag.{Tag}
use Rattle.gateway_answer.specs.Preparing.{ber_format}
use Rattle.gateway_answer.specs.declared.filing.FiledRecord.{FiledRecord}

-- the tag in front of a record of a packet with this data record format; records of other formats have none
abbrev pub record_tag : ℕ → List ℕ → Option Tag
record_tag format octets = if format == ber_format then front_tag octets else None

-- a record of a packet, with its index, filed under a key at a moment
abbrev pub filed_record : PacketKey → ℕ → ℕ → ℕ → ℕ × List ℕ → FiledRecord
filed_record key moment format version placed = record {
  key = key;
  index = placed.0;
  kind = kind_of format version;
  tag = record_tag format placed.1;
  octets = placed.1;
  moment = moment;
}

-- the records of a packet of this format and version, from the one with this index on
abbrev pub records_from : PacketKey → ℕ → ℕ → ℕ → ℕ → List (List ℕ) → List FiledRecord
records_from key moment format version index records =
    map (filed_record key moment format version) (enumerate_from index records)

-- all records of a packet, and none where there is no packet
abbrev pub records_if : PacketKey → ℕ → Option PacketForm → List FiledRecord
records_if key moment None = []
records_if key moment (Some packet) = records_from key moment packet.format packet.version 0 packet.records

-- the records of a packet, filed under a key at a moment
abbrev pub filed_under : PacketKey → ℕ → List ℕ → List FiledRecord
filed_under key moment packet = records_if key moment (packet_of packet)

-- the key of a node's number in the node's present epoch
abbrev pub present_key : List HistoryEntry → NodeId → ℕ → PacketKey
present_key h node number = record { node = node; epoch = epoch_of node.0 h; number = number }

-- the packet of an entry that holds one
abbrev pub packet_of_hold : HistoryAct → Option (List ℕ)
packet_of_hold (Hold n x packet) = Some packet
packet_of_hold _ = None

-- the packet that is held under a node's number in the node's present epoch: that of the last entry that names the
-- number, where this is a Hold
abbrev pub held_packet : ℕ → ℕ → List HistoryEntry → Option (List ℕ)
held_packet node number h = option_and_then (λ e. packet_of_hold e.act) (last_naming node number (present_entries node h))

-- the records that the release of a number files: those that are held under it, and none where it isn't held
abbrev pub released_records : List HistoryEntry → ℕ → NodeId → ℕ → List FiledRecord
released_records before moment n number =
    option_map_or (filed_under (present_key before n number) moment) (held_packet n.0 number before) []

-- the records that the release of these numbers of a node files, number after number
abbrev pub released_by : List HistoryEntry → ℕ → NodeId → List ℕ → List FiledRecord
released_by before moment n numbers = flat_map (released_records before moment n) numbers

-- the records that an act files, by the entries before it: a release that names a number twice files its records once
abbrev pub filed_by_act : List HistoryEntry → ℕ → HistoryAct → List FiledRecord
filed_by_act before moment (File n x packet) = filed_under (present_key before n x) moment packet
filed_by_act before moment (Release n xs) = released_by before moment n (once (λ x y. x == y) xs)
filed_by_act before moment _ = []

-- the records that an entry files
abbrev pub filed_by : List HistoryEntry → HistoryEntry → List FiledRecord
filed_by before e = filed_by_act before e.moment e.act

-- what each of these entries gives by the entries before it, one after the other
abbrev pub along : {A : Type 0} → (List HistoryEntry → HistoryEntry → List A) → List HistoryEntry → List HistoryEntry → List A
along f before [] = []
along f before (e ∷ h) = f before e ++ along f (before ++ e ∷ []) h

-- the records that a history files: those of each File entry, and at a Release those of the packets that it releases
abbrev pub filed : List HistoryEntry → List FiledRecord
filed h = along filed_by [] h
