use Rattle.std.proofs.Common.{arith, ◌≡◌, ◌+◌, length, ap, List}
use Rattle.dup_buffer.specs.Stored.{all_held, is_of}
use Rattle.dup_buffer.specs.declared.copy.HeldCopy.{HeldCopy}
use Rattle.dup_buffer.proofs.StepLemmas.{gone_count, left_copies, left_length, left_stored}
use Rattle.dup_buffer.proofs.held.Held.drop_node.Goals as goal
use Rattle.std.specs.List.{count_by}

-- how many there were
gone : (c : goal.After-self-1) →
    length c.drop_copies.new.copies.items + length c.drop_copies-2.new.copies.items + count_by
    (is_of c.args.node.0) (all_held c.self.inside.kept.items c.self.inside.late.items)
    ≡ length (all_held c.self.inside.kept.items c.self.inside.late.items)
gone c =
    gone_count c.args.node.0 c.self.inside.kept.items c.self.inside.late.items c.drop_copies.new.copies.items
    c.drop_copies-2.new.copies.items c.self.invariant.0.held
    c.drop_copies.ensures.items c.drop_copies-2.ensures.items

pub overflow_sub-result : goal.overflow_sub-result
overflow_sub-result c = omega (arith, gone c, c.self.invariant.1)

pub invariant_of-self : goal.invariant_of-self
invariant_of-self c =
    let kept = c.self.inside.kept.items in
    let late = c.self.inside.late.items in (
      rw (c.drop_copies.ensures.items, c.drop_copies-2.ensures.items) (left_stored c.args.node.0 kept late c.self.invariant.0),
      rw (c.drop_copies.ensures.items, c.drop_copies-2.ensures.items)
          (omega (
            arith,
            left_length c.args.node.0 kept late,
            ap (λ (l : List HeldCopy). length l)
                c.drop_copies.ensures.items,
            ap (λ (l : List HeldCopy). length l) c.drop_copies-2.ensures.items,
          )),
      omega (arith, gone c, c.self.invariant.1, c.self.invariant.2),
      omega (arith, gone c, c.self.invariant.1, c.self.invariant.3),
      omega (arith, c.self.invariant.4),
    )

pub returns-clause-value : goal.returns-clause-value
returns-clause-value c = rw (← c.self.view_is) (omega (arith, gone c, c.self.invariant.1))

pub returns-clause-others : goal.returns-clause-others
returns-clause-others c =
    rw (← c.self.view_is, c.drop_copies.ensures.items, c.drop_copies-2.ensures.items)
    (left_copies c.args.node.0 c.self.inside.kept.items c.self.inside.late.items c.self.invariant.0.held)

pub returns-clause-spare : goal.returns-clause-spare
returns-clause-spare c = rw (← c.self.view_is) (omega (arith, gone c, c.self.invariant.1, c.self.invariant.3))
