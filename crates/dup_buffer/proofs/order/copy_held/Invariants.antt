use Rattle.std.proofs.Common.{◌≡◌, ◌≤◌, take, vec_capacity}
use Rattle.dup_buffer.specs.Stored.{held_in}
use Rattle.dup_buffer.proofs.order.copy_held.Given as goal

abbrev pub invariant-loop-other : goal.invariant-loop-other
invariant-loop-other l = (l.copies.items ≡ held_in (take l.other-index l.others)) × (vec_capacity l.fn.copies ≤ vec_capacity l.copies)
