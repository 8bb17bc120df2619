use Rattle.turn_cell.specs.Cell.{knowledge}
use Rattle.node_session.proofs.TogetherLemmas.{as_many_behind, number_behind, taken_behind, turns_behind}
use Rattle.node_session.proofs.together.take_each.Goals as goal

pub returns-clause-taken : goal.returns-clause-taken
returns-clause-taken g c = λ earlier before taken.
    taken_behind g.A.Area c.args.session _ _ earlier c.args.jobs.now c.args.outcomes.now.items c.with_each.new.answers.items before (knowledge c.args.pass)
    (knowledge c.with_each.result) c.with_each.ensures.took taken

pub returns-clause-turns : goal.returns-clause-turns
returns-clause-turns g c = λ have.
    turns_behind g.A.Area c.args.session _ _ c.args.jobs.now c.args.outcomes.now.items c.with_each.new.answers.items (knowledge c.args.pass)
    (knowledge c.with_each.result) c.with_each.ensures.took have

pub returns-clause-each : goal.returns-clause-each
returns-clause-each g c =
    as_many_behind g.A.Area c.args.session _ _ c.args.jobs.now c.args.outcomes.now.items c.with_each.new.answers.items (knowledge c.args.pass)
    (knowledge c.with_each.result) c.with_each.ensures.took

pub returns-clause-own : goal.returns-clause-own
returns-clause-own g c = (
  c.with_each.ensures.own,
  number_behind g.A.Area c.args.session _ _ c.args.jobs.now c.args.outcomes.now.items c.with_each.new.answers.items (knowledge c.args.pass)
      (knowledge c.with_each.result) c.with_each.ensures.took,
)
