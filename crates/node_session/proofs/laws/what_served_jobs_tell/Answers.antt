use Rattle.std.proofs.Common.{◌∙◌}
use Rattle.node_session.proofs.TogetherLemmas.{adds_answers_of, all_may_have, keeps_turns_of, tell_together}
use Rattle.node_session.proofs.laws.what_served_jobs_tell.Goals as goal

pub returns-clause-turns : goal.returns-clause-turns
returns-clause-turns g c = λ session jobs old new results before after is.
    keeps_turns_of g.A.Area session (g.G.Gate.may c.args.gate.now) is

pub returns-clause-tells : goal.returns-clause-tells
returns-clause-tells g c = λ session jobs old new results before after is.
    tell_together g.A.Area session (g.G.Gate.may c.args.gate.now) is

pub returns-clause-gate : goal.returns-clause-gate
returns-clause-gate g c = λ session jobs old new results before after is.
    all_may_have g.A.Area session (g.G.Gate.may c.args.gate.now) is

pub returns-clause-answers : goal.returns-clause-answers
returns-clause-answers g c = λ told session jobs earlier before after keeps own adds.
    adds_answers_of keeps told (own ∙ keeps.number) earlier adds
