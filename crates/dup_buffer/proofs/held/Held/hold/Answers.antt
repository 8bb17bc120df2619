use Rattle.std.proofs.Common.{◌≡◌, List, None, ap, arith, length, refl, true}
use Rattle.std.specs.List.{find}
use Rattle.dup_buffer.specs.Stored.{all_held, is_copy_of}
use Rattle.dup_buffer.specs.declared.copy.HeldCopy.{HeldCopy}
use Rattle.dup_buffer.proofs.StepLemmas.{IsHeld, few_held, held_one, no_place, none_late}
use Rattle.dup_buffer.proofs.held.Held.hold.Goals as goal

pub reserve-requires : goal.reserve-requires
reserve-requires c =
    omega (arith, few_held c.self.inside.kept.items c.self.inside.late.items, c.self.invariant.1, ap (λ (l : List HeldCopy). length l) c.deref.ensures.value)

pub put_in-requires-clause-none : goal.put_in-requires-clause-none
put_in-requires-clause-none c =
    none_late (is_copy_of c.args.node.0 c.args.number) c.self.inside.kept.items c.self.inside.late.items
    c.make_place.new.kept.items c.make_place.new.late.items
    (rw c.reserve.ensures.items at c.make_place.ensures.same) (no_place _ (rw (← c.self.view_is) at c.requires))

-- one more is held
held : (c : goal.After-self-1) → IsHeld (record {
  number = c.args.number;
  at = c.args.place.at;
  node = c.args.node.0;
  length = c.args.place.length;
  held = true;
})
    (all_held c.self.inside.kept.items c.self.inside.late.items) c.make_place.new.kept.items c.put_in.new.copies.items
held c =
    let none : find (is_copy_of c.args.node.0 c.args.number)
    (all_held c.self.inside.kept.items c.self.inside.late.items) ≡ None =
    no_place _ (rw (← c.self.view_is) at c.requires) in
    held_one _ (all_held c.self.inside.kept.items c.self.inside.late.items) c.make_place.new.kept.items
    c.make_place.new.late.items
    c.put_in.new.copies.items (rw c.reserve.ensures.items at c.make_place.ensures.same) none c.self.invariant.0.once
    refl
    c.make_place.ensures.stored c.make_place.ensures.late c.put_in.ensures.order c.put_in.ensures.same

pub invariant_of-self-2 : goal.invariant_of-self-2
invariant_of-self-2 c = (
  (held c).lists,
  omega (arith, (held c).count, c.self.invariant.1),
  omega (arith, c.if-self-ge-MOST_COPIES.false),
  omega (arith, c.in-Ok.ensures.ok, c.make_place.ensures.kept_capacity),
  omega (arith, c.self.invariant.4, c.make_place.ensures.late_capacity, c.put_in.ensures.capacity),
)

pub returns-clause-held : goal.returns-clause-held
returns-clause-held c = rw (← c.self.view_is) (held c).copies
