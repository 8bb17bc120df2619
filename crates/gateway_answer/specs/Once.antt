-- How often a record is filed.
use Rattle.std.specs.Prelude.{ℕ, ◌==◌, ◌&&◌, Bool, List, count_by}
use Rattle.gw_base.specs.declared.history.PacketKey.{PacketKey}
use Rattle.gateway_answer.specs.declared.filing.FiledRecord.{FiledRecord}

abbrev pub same_key : PacketKey → PacketKey → Bool
same_key a b = ((a.node.0 == b.node.0) && (a.epoch == b.epoch)) && (a.number == b.number)

-- whether a filed record is the one with this index of the packet under a key
abbrev pub is_record_of : PacketKey → ℕ → FiledRecord → Bool
is_record_of key index r = same_key r.key key && (r.index == index)

-- how often it is filed
abbrev pub times_filed : PacketKey → ℕ → List FiledRecord → ℕ
times_filed key index records = count_by (is_record_of key index) records
