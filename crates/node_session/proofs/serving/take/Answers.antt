use Rattle.std.proofs.Common.{List, ℕ, ◌∙◌, subst}
use Rattle.node_session.proofs.Names.{caller_of, knowledge, TakesIn}
use Rattle.node_session.proofs.ServedLemmas.{own_turn}
use Rattle.node_session.proofs.serving.take.Goals as goal

pub returns-clause-takes : goal.returns-clause-takes
returns-clause-takes g c =
    let job = c.args.job.now in
    subst (λ (o : List ℕ). TakesIn g.A.Area job.from o job.moment (caller_of c.args.session job) (knowledge c.args.pass) c.with.result.0 (knowledge c.with.result.1))
    (c.prepare-request.ensures ∙ c.octets.ensures) c.with.ensures.took

pub returns-clause-turn : goal.returns-clause-turn
returns-clause-turn g c =
    own_turn g.A.Area _ _ _ _ (knowledge c.args.pass) (knowledge c.with.result.1) c.with.result.0 c.with.ensures.took
