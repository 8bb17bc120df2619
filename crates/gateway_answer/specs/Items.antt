-- What the writer of files is told of a history, one after the other: the filed records, and the marks that close
-- files. The items are numbered from 0 on in their order.
use Rattle.std.specs.Prelude.{ℕ, ◌<◌, ◌^◌, Bool, true, false, List, [], ◌∷◌, count_by, length, map, take, drop}
use Rattle.gw_base.specs.CdrKind.{IsCdrKind}
use Rattle.gw_base.specs.declared.history.HistoryAct.{HistoryAct}
use Rattle.gw_base.specs.declared.history.HistoryAct.TheVariants as act
use Rattle.gw_base.specs.declared.history.HistoryEntry.{HistoryEntry}
use Rattle.gw_base.specs.declared.item.Item.{Item}
use Rattle.gw_base.specs.declared.item.Item.TheVariants as item
use Rattle.gateway_answer.specs.Filed.{along, filed_by_act}
use Rattle.gateway_answer.specs.declared.filing.FiledRecord.{FiledRecord}

-- what the writer is told of a filed record
abbrev pub part_of : FiledRecord → Item
part_of filed = item.Part filed.kind filed.tag filed.octets filed.moment

-- the items that an act makes, by the entries before it
abbrev pub items_by_act : List HistoryEntry → ℕ → HistoryAct → List Item
items_by_act before moment act.Tick = item.Tick moment ∷ []
items_by_act before moment act.Close = item.Close moment ∷ []
items_by_act before moment a = map part_of (filed_by_act before moment a)

-- the items that an entry makes
abbrev pub items_by : List HistoryEntry → HistoryEntry → List Item
items_by before e = items_by_act before e.moment e.act

-- the items of a history
abbrev pub items_of : List HistoryEntry → List Item
items_of h = along items_by [] h

-- so many items from a number on, or all where there are fewer
abbrev pub items_between : ℕ → ℕ → List HistoryEntry → List Item
items_between from max h = take max (drop from (items_of h))

-- whether an item is a filed record
abbrev pub is_part : Item → Bool
is_part (item.Part kind tag octets moment) = true
is_part (item.Tick moment) = false
is_part (item.Close moment) = false

-- how many of these items are records
abbrev pub part_count : List Item → ℕ
part_count items = count_by is_part items

-- What a writer of files asks of an item: a record has at most 65,535 octets, as many as the header of its CDR can
-- count, and a kind that this header can say (3GPP TS 32.297, clause 6.1.2).
abbrev pub IsWritable : Item → Type 0
IsWritable (item.Part kind tag octets moment) = IsCdrKind kind × (length octets < 2 ^ 16)
IsWritable (item.Tick moment) = Unit {0}
IsWritable (item.Close moment) = Unit {0}
