use Rattle.std.proofs.Common.{refl}
use Rattle.replay_gateway.proofs.Names.{header_at}
use Rattle.replay_gateway.proofs.machine.Machine.cut.Goals as goal

pub returns-clause-down : goal.returns-clause-down
returns-clause-down c = λ setup place h is_cut.
    let cut = rw c.in-Some.ensures.0 at is_cut in
    let down = c.what_a_gateway_leaves.ensures.cut (refl, refl) refl (header_at setup place) c.in-Some.book h
    c.into_area.ensures.leaves cut.cut in (
      c.leave.ensures.down setup place h (rw c.into_area.ensures.area down) (cc (c.into_area.ensures.area, cut.size)),
      c.leave.ensures.none,
    )

pub returns-clause-files : goal.returns-clause-files
returns-clause-files c = λ setup place h settings f items is_cut files.
    c.leave.ensures.files settings f items (rw c.in-Some.ensures.1 files)
