use Rattle.std.proofs.Common.{refl}
use Rattle.loop_run.proofs.LeavingLemmas.{gateway_leaves}
use Rattle.loop_run.proofs.collecting.leave_gateway.Goals as goal

pub returns-in_default : goal.returns-in_default
returns-in_default g c = gateway_leaves g.L.Link.Link c.args.gateway c.args.stop _ _ _ _ _ c.what_links_sent.ensures c.give_back.ensures
    (λ is. absurd (cc is)) refl (λ is. absurd (cc is)) (λ is. absurd (cc is)) (λ is. absurd (cc is))

pub returns : goal.returns
returns g c = gateway_leaves g.L.Link.Link c.args.gateway c.args.stop _ _ _ _ _ c.what_links_sent.ensures c.give_back.ensures
    (λ is. (c.commit.result, c.commit.ensures, c.in-Ok.ensures.items)) refl (λ is. is) (λ is. is) (λ is. is)
