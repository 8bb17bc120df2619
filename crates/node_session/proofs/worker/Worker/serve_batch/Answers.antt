use Rattle.std.proofs.Common.{sym, ◌∙◌}
use Rattle.node_session.specs.Passes.{known_by}
use Rattle.node_session.proofs.TogetherLemmas.{adds_answers_of, all_may_have, all_taken, both_served, keeps_turns_of, tell_together}
use Rattle.node_session.proofs.worker.Worker.serve_batch.Goals as goal

pub returns-clause-served : goal.returns-clause-served
returns-clause-served g c =
    both_served g.A.Area (g.G.Gate.may c.args.gate.now) c.args.self.now.session c.args.batch.now.jobs.items c.take.new.batch.outcomes.items
    c.go_on.new.batch.served.items (known_by c.args.self.now.pass) (known_by c.take.new.self.pass) (known_by c.go_on.new.self.pass)
    (g.L.Link.state c.args.link.now) (g.L.Link.state c.go_on.new.link) c.take.new.self.session c.take.new.batch.jobs.items c.take.ensures.own.1
    c.take.ensures.jobs (all_taken g.A.Area c.args.self.now.session c.args.batch.now.jobs.items c.take.new.batch.jobs.items c.clear.new.self.items
    c.take.new.batch.outcomes.items (known_by c.args.self.now.pass) (known_by c.take.new.self.pass) c.clear.ensures.items
    (λ k first. c.take.ensures.taken k first)) c.go_on.ensures.goes

pub returns-clause-turns : goal.returns-clause-turns
returns-clause-turns g c = keeps_turns_of g.A.Area _ _ (returns-clause-served g c)

pub returns-clause-tells : goal.returns-clause-tells
returns-clause-tells g c = tell_together g.A.Area _ _ (returns-clause-served g c)

pub returns-clause-gate : goal.returns-clause-gate
returns-clause-gate g c = all_may_have g.A.Area _ _ (returns-clause-served g c)

pub returns-clause-answers : goal.returns-clause-answers
returns-clause-answers g c =
    let turns = returns-clause-turns g c in
    λ told. adds_answers_of turns told (sym c.take.ensures.own.1 ∙ c.go_on.ensures.number ∙ turns.number)
