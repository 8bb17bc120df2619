use Rattle.std.proofs.Common.{◌∙◌, sym, refl, true≢false}
use Rattle.replay_gateway.proofs.Names.{files_in, header_at, items_of, Old}
use Rattle.replay_gateway.proofs.OpeningLemmas.{stopped_area}
use Rattle.replay_gateway.proofs.CallLemmas.{stopped}
use Rattle.replay_gateway.proofs.machine.Machine.stop.Goals as goal

pub returns-clause-stops : goal.returns-clause-stops
returns-clause-stops c = λ setup place g m stands runs.
    let at = c.in-Some.ensures.0 in
    let up = rw at at stands.site in
    let fit = rw (← c.into_area-area.ensures.area) at
    (c.what_a_gateway_leaves.ensures.stop (refl, refl) refl (header_at setup place) c.in-Some.book g.book m.armed
    m.at_last c.into_area-area.ensures.leaves up.up Old) in
    let down = stopped_area setup place g.book _ fit c.stop.ensures.left in
    stopped g m stands
    (c.leave.ensures.down setup place g.book.firm down
    (cc (c.stop.ensures.left.size, c.into_area-area.ensures.area, up.size))) c.leave.ensures.none
    (c.leave.ensures.files (files_in setup place) m.filing (items_of g.book.firm) (rw c.in-Some.ensures.1 stands.writes))
    (rw c.in-Some.ensures.1 at c.leave.ensures.rest)

pub returns-clause-down : goal.returns-clause-down
returns-clause-down c = λ setup place g m stands down.
    absurd (true≢false (sym down ∙ (rw c.in-Some.ensures.0 at stands.site).runs))
