use Rattle.std.proofs.Common.{List, subst, sym, ap, ◌∙◌}
use Rattle.node_session.proofs.Names.{HaveTurnsFor, knowledge, known_by, Outcome, tells_lists}
use Rattle.node_session.proofs.ServedLemmas.{own_number}
use Rattle.node_session.proofs.TogetherLemmas.{gone_on, number_on}
use Rattle.node_session.proofs.worker.Worker.go_on.Goals as goal

pub go_on_each-pass-requires-clause-turns : goal.go_on_each-pass-requires-clause-turns
go_on_each-pass-requires-clause-turns g c =
    let is = sym c.take.ensures.value ∙ c.in-Some.is in
    subst (λ (os : List Outcome). HaveTurnsFor (tells_lists g.A.Area) os (knowledge c.in-Some.pass)) (sym c.as_slice-2.ensures.value)
    (subst (λ k. HaveTurnsFor (tells_lists g.A.Area) c.args.batch.now.outcomes.items k) (ap known_by is) c.requires.turns)

pub returns-clause-goes : goal.returns-clause-goes
returns-clause-goes g c =
    let is = sym c.take.ensures.value ∙ c.in-Some.is in
    gone_on g.A.Area (g.G.Gate.may c.args.gate.now) c.args.self.now.session c.args.batch.now.jobs.items c.args.batch.now.outcomes.items
    c.go_on_each-pass.new.served.items c.args.self.now.pass c.in-Some.pass (knowledge c.go_on_each-pass.result) (g.L.Link.state c.args.link.now)
    (g.L.Link.state c.go_on_each-pass.new.link) is c.as_slice.result.now c.as_slice-2.result.now c.as_slice.ensures.value c.as_slice-2.ensures.value
    c.go_on_each-pass.ensures.go_on

pub returns-clause-number : goal.returns-clause-number
returns-clause-number g c =
    let is = sym c.take.ensures.value ∙ c.in-Some.is in
    own_number c.args.self.now.session c.args.self.now.pass c.in-Some.pass is c.args.self.now.own ∙ ap (λ p. (known_by p).number) is
    ∙ sym (number_on g.A.Area c.args.self.now.session (g.G.Gate.may c.args.gate.now) c.as_slice.result.now c.as_slice-2.result.now
    c.go_on_each-pass.new.served.items (knowledge c.in-Some.pass) (knowledge c.go_on_each-pass.result) (g.L.Link.state c.args.link.now)
    (g.L.Link.state c.go_on_each-pass.new.link) c.go_on_each-pass.ensures.go_on)

pub invariant_of-self-clause-own : goal.invariant_of-self-clause-own
invariant_of-self-clause-own g c =
    let is = sym c.take.ensures.value ∙ c.in-Some.is in
    own_number c.args.self.now.session c.args.self.now.pass c.in-Some.pass is c.args.self.now.own ∙ ap (λ p. (known_by p).number) is
    ∙ sym (number_on g.A.Area c.args.self.now.session (g.G.Gate.may c.args.gate.now) c.as_slice.result.now c.as_slice-2.result.now
    c.go_on_each-pass.new.served.items (knowledge c.in-Some.pass) (knowledge c.go_on_each-pass.result) (g.L.Link.state c.args.link.now)
    (g.L.Link.state c.go_on_each-pass.new.link) c.go_on_each-pass.ensures.go_on)
