use Rattle.std.proofs.Common.{◌∙◌, ap, arith, refl, sym}
use Rattle.dup_buffer.specs.Stored.{IsFrom, is_copy_of, rank, rank_of}
use Rattle.dup_buffer.specs.declared.copy.HeldCopy.{HeldCopy}
use Rattle.dup_buffer.proofs.OrderLemmas.{absent_at, absent_end, found_at}
use Rattle.dup_buffer.proofs.order.search.Goals as goal

pub returns-then-at-copies-clause-absent : goal.returns-then-at-copies-clause-absent
returns-then-at-copies-clause-absent c =
    let from : IsFrom c.args.copies.now c.first_from-at.result (rank_of c.args.node.0 c.args.number) = rw c.rank_of.ensures at c.first_from-at.ensures in
    absent_end c.args.copies.now c.first_from-at.result c.args.node.0 c.args.number (omega (arith, c.if-at-copies.true)) from

pub returns-then-is_of-clause-found : goal.returns-then-is_of-clause-found
returns-then-is_of-clause-found c =
    let from : IsFrom c.args.copies.now c.first_from-at.result (rank_of c.args.node.0 c.args.number) = rw c.rank_of.ensures at c.first_from-at.ensures in
    found_at c.args.copies.now c.first_from-at.result c.args.node.0 c.args.number c.copy_at.result c.requires (omega (arith, c.if-at-copies.false, from.inside)) from
    (ap (λ (k : HeldCopy). is_copy_of c.args.node.0 c.args.number k) (sym (c.copy_at.ensures c.copy_at.result)) ∙ sym c.if-is_of.ensures.value)

pub returns-clause-absent : goal.returns-clause-absent
returns-clause-absent c =
    let from : IsFrom c.args.copies.now c.first_from-at.result (rank_of c.args.node.0 c.args.number) = rw c.rank_of.ensures at c.first_from-at.ensures in
    absent_at c.args.copies.now c.first_from-at.result c.args.node.0 c.args.number c.copy_at.result c.requires (omega (arith, c.if-at-copies.false, from.inside)) from
    (λ q. c.if-is_of.ensures.apart refl (ap (λ (k : HeldCopy). rank k) (c.copy_at.ensures c.copy_at.result) ∙ q))
