use Rattle.std.proofs.Common.{◌+◌, List, take, arith, refl, rules, sym, subst, ap, ◌∙◌}
use Rattle.node_session.proofs.Names.{GoOn, HasTurnFor, Job, knowledge, Outcome, Served, take_all, tells_lists}
use Rattle.node_session.proofs.TogetherLemmas.{gone_next, turns_stay}
use Rattle.node_session.proofs.together.go_on_each.Goals as goal

pub loop-k-init : goal.loop-k-init
loop-k-init g c = record {
  own = c.requires.own;
  turns = c.requires.turns;
  go_on = (refl, c.requires.room.0, refl, refl);
  each = search rules;
  capacity = refl;
}

pub go_on-answer-requires-clause-turn : goal.go_on-answer-requires-clause-turn
go_on-answer-requires-clause-turn g c =
    let o : Outcome = c.index-outcomes-k.result in
    subst (λ (x : Outcome). HasTurnFor (tells_lists g.A.Area) x (knowledge c.loop-k.pass)) (sym c.index-outcomes-k.is)
    (c.loop-k.invariant.turns c.loop-k.k o (omega (arith, c.requires.each)))

pub loop-k-preserved : goal.loop-k-preserved
loop-k-preserved g c =
    let jobs = c.args.jobs.now in
    let outcomes = c.args.outcomes.now in
    let k = c.loop-k.k in
    let job : Job = c.index-jobs-k.result in
    let o : Outcome = c.index-outcomes-k.result in
    let first = c.loop-k.invariant in
    let before = knowledge c.args.pass in
    let now = knowledge c.loop-k.pass in
    let after = knowledge c.go_on-answer.result.1 in
    let goes = c.go_on-answer.ensures.goes in
    let old = g.L.Link.state c.args.link.now in
    let sent = g.L.Link.state c.loop-k.link in
    let new = g.L.Link.state c.go_on-answer.new.link in
    record {
      own = c.go_on-answer.ensures.own;
      turns = turns_stay g.A.Area c.args.session (g.G.Gate.may c.args.gate.now) job sent new c.go_on-answer.result.0 now after o outcomes goes first.turns;
      go_on = subst (λ (rs : List Served). GoOn g.A.Area (g.G.Gate.may c.args.gate.now) c.args.session (take (k + 1) jobs) (take (k + 1) outcomes) rs before after old new)
          (sym c.push_reserved.ensures.items)
          (gone_next g.A.Area c.args.session (g.G.Gate.may c.args.gate.now) jobs outcomes k job o c.loop-k.served.items before now after old sent new
          c.go_on-answer.result.0 (omega arith) (omega (arith, c.requires.each)) c.index-jobs-k.is c.index-outcomes-k.is first.go_on goes);
      each = c.push_reserved.ensures.len ∙ ap (λ n. n + 1) first.each;
      capacity = c.push_reserved.ensures.capacity ∙ first.capacity;
    }

pub returns-clause-go_on : goal.returns-clause-go_on
returns-clause-go_on g c =
    let jobs = c.args.jobs.now in
    let outcomes = c.args.outcomes.now in
    let before = knowledge c.args.pass in
    let after = knowledge c.loop-k.pass in
    let old = g.L.Link.state c.args.link.now in
    let new = g.L.Link.state c.loop-k.link in
    subst (λ (js : List Job). GoOn g.A.Area (g.G.Gate.may c.args.gate.now) c.args.session js outcomes c.loop-k.served.items before after old new)
    (take_all c.loop-k.k jobs (omega arith))
    (subst (λ (os : List Outcome). GoOn g.A.Area (g.G.Gate.may c.args.gate.now) c.args.session (take c.loop-k.k jobs) os c.loop-k.served.items before after old new)
    (take_all c.loop-k.k outcomes (omega (arith, c.requires.each))) c.loop-k.invariant.go_on)
