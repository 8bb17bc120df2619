use Rattle.std.proofs.Common.{refl}
use Rattle.replay_gateway.proofs.OpeningLemmas.{closed_down, site_later}
use Rattle.replay_gateway.proofs.CallLemmas.{site_set}
use Rattle.replay_gateway.proofs.machine.Machine.close_book.Goals as goal

pub returns : goal.returns
returns c = λ setup place g m before stands down is_opened.
    let up = rw c.in-Some.ensures.0 at is_opened.site in
    site_set stands
    (closed_down _ _ g m _ down stands.site up c.into_area-area.ensures.leaves c.into_area-area.ensures.area)
    (site_later before _ is_opened.rest (rw c.in-Some.ensures.1 refl))
