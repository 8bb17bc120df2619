use Rattle.std.proofs.Common.{List, ap, arith, false, length}
use Rattle.dup_buffer.specs.declared.copy.HeldCopy.{HeldCopy}
use Rattle.dup_buffer.proofs.HeldLemmas.{held_room}
use Rattle.dup_buffer.proofs.order.copy_held.Goals as goal

pub push_held-requires : goal.push_held-requires
push_held-requires c h =
    let d : HeldCopy = record { number = 0; at = 0; node = 0; length = 0; held = false } in
    omega (
      arith,
      held_room c.args.others.now c.loop-other.other-index d (omega (arith, c.loop-other-test.true)) h,
      ap (λ (l : List HeldCopy). length l) c.loop-other.invariant.0,
      c.loop-other.invariant.1,
      c.requires,
      c.clear.ensures.capacity,
    )
