use Rattle.std.proofs.Common.{◌≡◌, ◌∙◌, Bool, None, Option, Some, ap, arith, sym}
use Rattle.std.specs.List.{find}
use Rattle.std.specs.Option.{option_map}
use Rattle.gw_base.specs.declared.place.Place.{Place}
use Rattle.dup_buffer.specs.Stored.{all_held, copies_of, held_in, is_copy_of, place_of}
use Rattle.dup_buffer.specs.declared.copy.HeldCopy.{HeldCopy}
use Rattle.dup_buffer.proofs.StepLemmas.{IsTaken, found_kept, took_kept, took_late}
use Rattle.dup_buffer.proofs.StoredLemmas.{copies_of-none_less, stored}
use Rattle.dup_buffer.proofs.held.Held.take.Goals as goal
use Rattle.dup_buffer.proofs.held.Held.take.Goals.{After-from_residual, After-place, After-place-2}

-- a copy of the short list was taken out
from_late : (c : After-place) → IsTaken c.in-Some.copy c.args.node.0 c.args.number (all_held c.self.inside.kept.items c.self.inside.late.items) c.self.inside.kept.items c.take_out.new.copies.items
from_late c =
    took_late c.in-Some.copy c.args.node.0 c.args.number c.self.inside.kept.items c.self.inside.late.items c.take_out.new.copies.items c.self.invariant.0
    c.in-Some.ensures.named c.in-Some.ensures.order c.in-Some.ensures.same

pub overflow_sub-self : goal.overflow_sub-self
overflow_sub-self c =
    let taken = took_late c.in-Some.copy c.args.node.0 c.args.number c.self.inside.kept.items c.self.inside.late.items c.take_out.new.copies.items c.self.invariant.0
    c.in-Some.ensures.named c.in-Some.ensures.order c.in-Some.ensures.same in
    omega (arith, taken.less.count, c.self.invariant.1)

pub invariant_of-self : goal.invariant_of-self
invariant_of-self c =
    let taken = from_late c in (
      taken.lists,
      omega (arith, taken.less.count, c.self.invariant.1),
      omega (arith, c.self.invariant.2),
      omega (arith, c.self.invariant.3),
      omega (arith, c.self.invariant.4, c.in-Some.ensures.capacity),
    )

pub returns-in-Some-clause-value : goal.returns-in-Some-clause-value
returns-in-Some-clause-value c =
    let taken = from_late c in
    rw (← c.self.view_is) (ap (λ (q : Place). Some q) c.place.ensures ∙ sym taken.less.found)

pub returns-in-Some-clause-others : goal.returns-in-Some-clause-others
returns-in-Some-clause-others c =
    let taken = from_late c in
    rw (← c.self.view_is) taken.less.copies

-- no copy was taken out
none_here : (c : After-from_residual) → find (is_copy_of c.args.node.0 c.args.number) (all_held c.self.inside.kept.items c.self.inside.late.items) ≡ None
none_here c =
    let p : HeldCopy → Bool = is_copy_of c.args.node.0 c.args.number in
    found_kept p (held_in c.self.inside.kept.items) c.self.inside.late.items (c.take_out.ensures.none c.in_default.is) ∙ c.mark.ensures.none c.in_err-copy.was

pub returns-in_err-copy-clause-value : goal.returns-in_err-copy-clause-value
returns-in_err-copy-clause-value c =
    rw (← c.self.view_is) (c.from_residual.ensures ∙ sym (ap (λ (o : Option HeldCopy). option_map place_of o) (none_here c)))

pub returns-in_err-copy-clause-others : goal.returns-in_err-copy-clause-others
returns-in_err-copy-clause-others c =
    rw (← c.self.view_is, c.mark.ensures.kept c.in_err-copy.was, c.take_out.ensures.kept c.in_default.is)
    (sym (copies_of-none_less c.args.node.0 c.args.number (copies_of
    (stored (all_held c.self.inside.kept.items c.self.inside.late.items)))
    (ap (λ (o : Option HeldCopy). option_map place_of o) (none_here c))))

pub returns-in_err-copy-clause-spare : goal.returns-in_err-copy-clause-spare
returns-in_err-copy-clause-spare c = rw (← c.self.view_is) (rw (none_here c) (omega (arith, c.mark.ensures.capacity)))

-- a copy of the long list was taken out
from_kept : (c : After-place-2) → IsTaken c.in_ok-copy.copy c.args.node.0 c.args.number (all_held c.self.inside.kept.items c.self.inside.late.items) c.mark.new.copies.items c.take_out.new.copies.items
from_kept c =
    rw (c.take_out.ensures.kept c.in_default.is)
    (took_kept c.in_ok-copy.copy c.args.node.0 c.args.number c.self.inside.kept.items c.self.inside.late.items c.mark.new.copies.items c.self.invariant.0
    c.in_ok-copy.ensures.named c.in_ok-copy.ensures.order c.in_ok-copy.ensures.same)

pub overflow_sub-self-2 : goal.overflow_sub-self-2
overflow_sub-self-2 c =
    let taken = took_kept c.in_ok-copy.copy c.args.node.0 c.args.number c.self.inside.kept.items c.self.inside.late.items c.mark.new.copies.items c.self.invariant.0
    c.in_ok-copy.ensures.named c.in_ok-copy.ensures.order c.in_ok-copy.ensures.same in
    omega (arith, taken.less.count, c.self.invariant.1)

pub invariant_of-self-2 : goal.invariant_of-self-2
invariant_of-self-2 c =
    let taken = from_kept c in (
      taken.lists,
      omega (arith, taken.less.count, c.self.invariant.1),
      omega (arith, c.self.invariant.2),
      omega (arith, c.self.invariant.3, c.mark.ensures.capacity),
      omega (arith, c.self.invariant.4, c.take_out.ensures.capacity),
    )

pub returns-clause-value : goal.returns-clause-value
returns-clause-value c =
    let taken = from_kept c in
    rw (← c.self.view_is) (ap (λ (q : Place). Some q) c.place-2.ensures ∙ sym taken.less.found)

pub returns-clause-others : goal.returns-clause-others
returns-clause-others c =
    let taken = from_kept c in
    rw (← c.self.view_is) taken.less.copies
