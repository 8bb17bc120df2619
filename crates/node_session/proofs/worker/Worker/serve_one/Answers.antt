use Rattle.std.proofs.Common.{sym, ◌∙◌}
use Rattle.node_session.proofs.ServedLemmas.{at_pass, keeps_turns, may_have, own_number, tells_so}
use Rattle.node_session.proofs.TogetherLemmas.{adds_answers}
use Rattle.node_session.proofs.worker.Worker.serve_one.Goals as goal

pub returns-clause-served : goal.returns-clause-served
returns-clause-served g c =
    at_pass c.args.self.now.pass c.in-Some.pass (sym c.take.ensures.value ∙ c.in-Some.is) c.serve-served.ensures.served

pub returns-clause-turns : goal.returns-clause-turns
returns-clause-turns g c = keeps_turns g.A.Area _ _ _ _ _ _ (returns-clause-served g c)

pub returns-clause-tells : goal.returns-clause-tells
returns-clause-tells g c = tells_so g.A.Area _ _ _ _ _ _ (returns-clause-served g c)

pub returns-clause-gate : goal.returns-clause-gate
returns-clause-gate g c = may_have g.A.Area _ _ _ _ _ _ (returns-clause-served g c)

pub returns-clause-answers : goal.returns-clause-answers
returns-clause-answers g c = λ told.
    adds_answers (returns-clause-turns g c) told
    (own_number c.args.self.now.session c.args.self.now.pass c.in-Some.pass (sym c.take.ensures.value ∙ c.in-Some.is) c.args.self.now.own)
