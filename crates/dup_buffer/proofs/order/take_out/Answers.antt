use Rattle.std.proofs.Common.{ℕ, ◌∙◌, if◌then◌else◌, ap, arith}
use Rattle.std.specs.List.{count_by}
use Rattle.std.proofs.lemmas.List.Sums.{sum_by-cons, sum_by-remove}
use Rattle.dup_buffer.specs.Stored.{IsFound, is_copy_of}
use Rattle.dup_buffer.specs.declared.copy.HeldCopy.{HeldCopy}
use Rattle.dup_buffer.proofs.OrderLemmas.{from-remove}
use Rattle.dup_buffer.proofs.order.take_out.Goals as goal

pub returns-in-Ok-clause-order : goal.returns-in-Ok-clause-order
returns-in-Ok-clause-order c = rw c.remove.ensures.items (from-remove 0 c.args.copies.now.items c.in-Ok.at c.requires)

pub returns-in-Ok-clause-named : goal.returns-in-Ok-clause-named
returns-in-Ok-clause-named c =
    let is : IsFound c.args.copies.now.items c.in-Ok.at c.args.node.0 c.args.number = rw c.deref.ensures.value at c.in-Ok.ensures.found in
    ap (is_copy_of c.args.node.0 c.args.number) c.remove.ensures.value ∙ is.named c.remove.result

pub returns-in-Ok-clause-same : goal.returns-in-Ok-clause-same
returns-in-Ok-clause-same c p =
    let is : IsFound c.args.copies.now.items c.in-Ok.at c.args.node.0 c.args.number = rw c.deref.ensures.value at c.in-Ok.ensures.found in
    let f : HeldCopy → ℕ = λ k. if p k then 1 else 0 in
    omega (
      arith,
      ap (count_by p) c.remove.ensures.items,
      ap f c.remove.ensures.value,
      sum_by-cons f c.remove.result c.remove.new.self.items,
      sum_by-remove f c.args.copies.now.items c.in-Ok.at c.remove.result is.inside,
    )
