use Rattle.std.proofs.Common.{ℕ, ◌∙◌, if◌then◌else◌, ap, sym, arith}
use Rattle.std.specs.List.{count_by}
use Rattle.std.proofs.lemmas.List.Sums.{sum_by-cons, sum_by-insert}
use Rattle.dup_buffer.specs.Stored.{IsAbsent, IsFound}
use Rattle.dup_buffer.specs.declared.copy.HeldCopy.{HeldCopy}
use Rattle.dup_buffer.proofs.OrderLemmas.{from-insert}
use Rattle.dup_buffer.proofs.StoredLemmas.{found_is}
use Rattle.dup_buffer.proofs.order.put_in.Goals as goal

pub unreachable-requires : goal.unreachable-requires
unreachable-requires c =
    let d : HeldCopy = c.args.one in
    let is : IsFound c.args.copies.now.items c.in_default.field-0 d.node d.number = rw c.deref.ensures.value at c.in_default.ensures.found in
    let wrong = sym (found_is d.node d.number c.args.copies.now.items c.in_default.field-0 d is) ∙ c.requires.none in
    cc

pub returns-clause-order : goal.returns-clause-order
returns-clause-order c =
    let items = c.args.copies.now.items in
    let is : IsAbsent items c.in-Err.at c.args.one.node c.args.one.number = rw c.deref.ensures.value at c.in-Err.ensures.absent in
    rw c.in-Ok.ensures.items (from-insert 0 items c.in-Err.at c.args.one c.requires.order is.inside (omega arith) is.before is.later)

pub returns-clause-same : goal.returns-clause-same
returns-clause-same c p =
    let f : HeldCopy → ℕ = λ k. if p k then 1 else 0 in
    omega (arith, ap (count_by p) c.in-Ok.ensures.items, sum_by-cons f c.args.one c.args.copies.now.items, sum_by-insert f c.args.copies.now.items c.in-Err.at c.args.one)
