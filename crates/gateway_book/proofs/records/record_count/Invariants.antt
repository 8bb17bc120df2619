use Rattle.std.proofs.Common.{◌≡◌, count_by, take}
use Rattle.gateway_answer.specs.Items.{is_part}
use Rattle.gateway_book.proofs.records.record_count.Given as goal

abbrev pub invariant-loop-item : goal.invariant-loop-item
invariant-loop-item l = l.records ≡ count_by is_part (take l.item-index l.items)
