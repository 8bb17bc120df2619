use Rattle.std.proofs.Common.{rules, arith, true, nat_eq, None, ◌≡◌, ◌∙◌}
use Rattle.std.proofs.lemmas.Bool.Decides.{nat_tests}
use Rattle.session_run.proofs.ReceptionLemmas.{clock_stands, clock_still, clock_then, counts_on, counts_over, dispatched_with}
use Rattle.session_run.proofs.receiving.receive_turns.Goals as goal

pub returns-then-is_some-clause-turns : goal.returns-then-is_some-clause-turns
returns-then-is_some-clause-turns g c = λ n counts.
    counts_on g.L.Link n c.loop-reception.reception c.step-is_quiet.new.self (c.loop-reception.invariant.turns n counts)
    c.loop-reception.invariant.runs (search rules) c.step-is_quiet.ensures.rest.0 c.step-is_quiet.ensures.rest.1 c.step-is_quiet.ensures.turn.turns
    c.step-is_quiet.ensures.turn.most

pub returns-then-is_some-clause-cause : goal.returns-then-is_some-clause-cause
returns-then-is_some-clause-cause g c =
    clock_then _ _ _ _ c.loop-reception.invariant.clock c.step-is_quiet.ensures.cause

pub returns-then-is_some-clause-calm : goal.returns-then-is_some-clause-calm
returns-then-is_some-clause-calm g c = λ none. c.step-is_quiet.ensures.turn.calm none ∙ c.loop-reception.invariant.calm

pub loop-reception-preserved : goal.loop-reception-preserved
loop-reception-preserved g c =
    let r = c.loop-reception.reception in
    let runs : c.step-is_quiet.new.self.stop ≡ None = search rules in
    record {
      own = c.step-is_quiet.ensures.own;
      runs = runs;
      dispatched = λ at h. c.step-is_quiet.ensures.dispatched at (dispatched_with g.L.Link at r _ r.is_over (c.loop-reception.invariant.dispatched at h));
      turns = λ n counts.
          counts_on g.L.Link n r c.step-is_quiet.new.self (c.loop-reception.invariant.turns n counts)
          c.loop-reception.invariant.runs (search rules) c.step-is_quiet.ensures.rest.0 c.step-is_quiet.ensures.rest.1
          c.step-is_quiet.ensures.turn.turns
          c.step-is_quiet.ensures.turn.most;
      clock = clock_stands _ _ _ _ runs c.loop-reception.invariant.clock c.step-is_quiet.ensures.cause;
      calm = c.step-is_quiet.ensures.turn.calm runs ∙ c.loop-reception.invariant.calm;
    }

pub returns-clause-cause : goal.returns-clause-cause
returns-clause-cause g c = clock_still _ _ _ c.loop-reception.invariant.runs c.loop-reception.invariant.clock

pub returns-clause-calm : goal.returns-clause-calm
returns-clause-calm g c = λ none. c.loop-reception.invariant.calm

pub returns-clause-turns : goal.returns-clause-turns
returns-clause-turns g c = λ n counts.
    let r = c.loop-reception.reception in
    counts_over g.L.Link n r (nat_eq r.left 0) (λ (is : nat_eq r.left 0 ≡ true). grind (arith, nat_tests, is)) (c.loop-reception.invariant.turns n counts)
