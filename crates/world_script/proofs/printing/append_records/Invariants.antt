use Rattle.std.proofs.Common.{◌≡◌, ◌++◌, map, take}
use Rattle.world_script.proofs.Names.{encode_upper, words_text}
use Rattle.world_script.proofs.printing.append_records.Given as goal

abbrev pub invariant-loop-record : goal.invariant-loop-record
invariant-loop-record l = l.text.items ≡ l.initial.text.items ++ words_text (map encode_upper (take l.record-index l.records))
