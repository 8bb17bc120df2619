use Rattle.std.proofs.Common.{refl, ap}
use Rattle.replay_gateway.proofs.Names.{BookSetup, history_of, on_ok_weaker}
use Rattle.replay_gateway.proofs.OpeningLemmas.{never_refused, opened_up}
use Rattle.replay_gateway.proofs.site.reopened.Goals as goal

pub returns-in-Ok : goal.returns-in-Ok
returns-in-Ok c = λ s place g m stands named.
    opened_up s place g m stands (ap (λ (x : BookSetup). x.address) named) (ap (λ (x : BookSetup). x.open_time) named)
    c.what_stands_is_ours.ensures.starts c.what_a_gateway_leaves.ensures.opened c.in-Ok.ensures.ok
    (c.in-Ok.ensures.reads (refl, refl) (history_of g.book)) (c.in-Ok.ensures.planned refl refl) c.in-Ok.ensures.size

pub returns-in-Err : goal.returns-in-Err
returns-in-Err c = λ s place g m stands named.
    on_ok_weaker c.refused.result
    (λ other. never_refused s place g m stands (ap (λ (x : BookSetup). x.address) named)
    c.what_stands_is_ours.ensures.starts c.what_stands_is_ours.ensures.ours c.in-Err.ensures.err
    (λ some. c.in-Err.ensures.planned refl some) other) c.refused.ensures
