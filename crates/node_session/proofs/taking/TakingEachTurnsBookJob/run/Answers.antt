use Rattle.std.proofs.Common.{List, ℕ, ◌∙◌, subst}
use Rattle.node_session.proofs.Names.{caller_of, facts_of, HasTaken, tells_lists}
use Rattle.node_session.proofs.taking.TakingEachTurnsBookJob.run.Goals as goal

pub returns-clause-does : goal.returns-clause-does
returns-clause-does g c =
    let job = c.args.job.now in
    let does = c.run.ensures.does in (
      does.0,
      does.1,
      does.2,
      subst (λ (o : List ℕ). HasTaken job.from o job.moment (caller_of c.args.self.now.session job) (facts_of c.args.value.now) (facts_of c.run.new.value) does.1 c.run.result
          (tells_lists g.A.Area) does.0) (c.prepare-request.ensures ∙ c.octets.ensures) does.3,
    )
