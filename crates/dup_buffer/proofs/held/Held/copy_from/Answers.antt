use Rattle.std.proofs.Common.{◌≤◌, ◌+◌, ◌-◌, List, ap, arith, length, vec_capacity, ◌≡◌}
use Rattle.dup_buffer.specs.Stored.{all_held, copies_of, held_in}
use Rattle.dup_buffer.specs.declared.copy.HeldCopy.{HeldCopy}
use Rattle.dup_buffer.proofs.StoredLemmas.{held_all, stored}
use Rattle.dup_buffer.proofs.StepLemmas.{copied_same, copied_stored}
use Rattle.dup_buffer.proofs.held.Held.copy_from.Goals as goal

pub copy_held-requires-2 : goal.copy_held-requires-2
copy_held-requires-2 c =
    let late = c.other.inside.late.items in
    omega (
      arith,
      ap (λ (l : List HeldCopy). length (held_in l)) c.deref-2.ensures.value,
      ap (λ (l : List HeldCopy). length l) (held_all late c.other.invariant.0.held),
      c.other.invariant.0.few,
      c.self.invariant.4,
    )

-- what the other holds is held, and there is room for it
same : (c : goal.After-self-1) →
    all_held c.copy_held.new.copies.items c.copy_held-2.new.copies.items
    ≡ all_held c.other.inside.kept.items c.other.inside.late.items
same c =
    copied_same c.other.inside.kept.items c.other.inside.late.items c.deref.result.now c.deref-2.result.now
    c.copy_held.new.copies.items c.copy_held-2.new.copies.items
    c.other.invariant.0.held c.deref.ensures.value c.deref-2.ensures.value c.copy_held.ensures.items
    c.copy_held-2.ensures.items

room : (c : goal.After-self-1) → length (all_held c.other.inside.kept.items c.other.inside.late.items)
    ≤ length (all_held c.self.inside.kept.items c.self.inside.late.items) + (vec_capacity c.self.inside.kept -
    c.self.inside.count)
room c = rw (← c.self.view_is, ← c.other.view_is) at c.requires

pub invariant_of-self : goal.invariant_of-self
invariant_of-self c =
    let kept = c.other.inside.kept.items in
    let late = c.other.inside.late.items in (
      rw (c.copy_held.ensures.items, c.copy_held-2.ensures.items, c.deref.ensures.value, c.deref-2.ensures.value) (copied_stored kept late c.other.invariant.0),
      omega (arith, c.other.invariant.1, ap (λ (l : List HeldCopy). length l) (same c)),
      c.other.invariant.2,
      omega (arith, room c, c.other.invariant.1, c.self.invariant.1, c.self.invariant.3, c.copy_held.ensures.capacity),
      omega (arith, c.self.invariant.4, c.copy_held-2.ensures.capacity),
    )

pub returns-clause-copies : goal.returns-clause-copies
returns-clause-copies c =
    rw (← c.other.view_is) (ap (λ (l : List HeldCopy). copies_of (stored l)) (same c))

pub returns-clause-spare : goal.returns-clause-spare
returns-clause-spare c =
    rw (← c.self.view_is)
    (omega (
      arith,
      room c,
      ap (λ (l : List HeldCopy).
          length l) (same c),
      c.other.invariant.1,
      c.copy_held.ensures.capacity,
      c.self.invariant.1,
      c.self.invariant.3,
    ))
