use Rattle.std.proofs.Common.{ℕ, List, take, count_by, ap, ◌∙◌, arith}
use Rattle.std.proofs.Math.Seq.{take-length}
use Rattle.gateway_book.proofs.Names.{is_part, Item}
use Rattle.gateway_book.proofs.records.record_count.Goals as goal

pub returns-clause-parts : goal.returns-clause-parts
returns-clause-parts c =
    c.loop-item.invariant ∙ ap (λ (n : ℕ). count_by is_part (take n c.args.items.now)) (omega arith)
    ∙ ap (λ (items : List Item). count_by is_part items) (take-length c.args.items.now)

pub returns-clause-records : goal.returns-clause-records
returns-clause-records c = λ h is.
    c.loop-item.invariant ∙ ap (λ (n : ℕ). count_by is_part (take n c.args.items.now)) (omega arith)
    ∙ ap (λ (items : List Item). count_by is_part items) (take-length c.args.items.now ∙ is)
    ∙ c.a_history_filed_its_parts.ensures h
