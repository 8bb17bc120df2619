use Rattle.std.proofs.Common.{arith, subst, sym, ap, ◌∙◌}
use Rattle.node_session.proofs.Names.{HaveTurnsFor, knowledge, known_by, tells_lists}
use Rattle.node_session.proofs.ServedLemmas.{own_number}
use Rattle.node_session.proofs.TogetherLemmas.{taken_on}
use Rattle.node_session.proofs.worker.Worker.take.Goals as goal

pub returns-clause-taken : goal.returns-clause-taken
returns-clause-taken g c = λ before first.
    let is = sym c.take.ensures.value ∙ c.in-Some.is in
    taken_on g.A.Area c.args.self.now.session c.args.batch.now.jobs.items c.args.batch.now.outcomes.items c.take_each-pass.new.outcomes.items
    c.args.self.now.pass c.in-Some.pass before (knowledge c.take_each-pass.result) is c.as_slice.result.now c.split_at.result.0.now c.split_at.result.1.now
    c.len.result c.as_slice.ensures.value (omega (arith, c.len.ensures)) c.split_at.ensures.front c.split_at.ensures.by_index.0 first
    (λ t. c.take_each-pass.ensures.taken c.split_at.result.0.now before t)

pub returns-clause-turns : goal.returns-clause-turns
returns-clause-turns g c = λ have.
    let is = sym c.take.ensures.value ∙ c.in-Some.is in
    c.take_each-pass.ensures.turns (subst (λ k. HaveTurnsFor (tells_lists g.A.Area) c.args.batch.now.outcomes.items k) (ap known_by is) have)

pub invariant_of-self-clause-own : goal.invariant_of-self-clause-own
invariant_of-self-clause-own g c =
    let is = sym c.take.ensures.value ∙ c.in-Some.is in
    own_number c.args.self.now.session c.args.self.now.pass c.in-Some.pass is c.args.self.now.own
    ∙ ap (λ p. (known_by p).number) is ∙ sym c.take_each-pass.ensures.own.1
