use Rattle.std.proofs.Common.{None, rules, ◌≡◌, ◌∙◌}
use Rattle.session_run.proofs.ReceptionLemmas.{clock_stands, clock_then}
use Rattle.session_run.proofs.TeamLemmas.{counts_then, team_then}
use Rattle.session_run.proofs.round.serve.Goals as goal

pub returns-then-have_ended-clause-worked : goal.returns-then-have_ended-clause-worked
returns-then-have_ended-clause-worked g c =
    team_then c.loop.invariant.worked c.serve_once-served.ensures.worked

pub returns-then-have_ended-clause-dispatched : goal.returns-then-have_ended-clause-dispatched
returns-then-have_ended-clause-dispatched g c = λ at h. c.serve_once-served.ensures.dispatched at (c.loop.invariant.dispatched at h)

pub returns-then-have_ended-clause-cause : goal.returns-then-have_ended-clause-cause
returns-then-have_ended-clause-cause g c = clock_then _ _ _ _ c.loop.invariant.clock c.serve_once-served.ensures.cause

pub returns-then-have_ended-clause-calm : goal.returns-then-have_ended-clause-calm
returns-then-have_ended-clause-calm g c = λ none. c.serve_once-served.ensures.calm none ∙ c.loop.invariant.calm

pub loop-preserved : goal.loop-preserved
loop-preserved g c =
    let i = c.loop.invariant in
    let e = c.serve_once-served.ensures in
    let runs : c.serve_once-served.result.0.stop ≡ None = c.have_ended.ensures.runs (search rules) in
    record {
      own = e.own.0;
      team = e.own.1;
      runs = runs;
      ready = e.writer;
      worked = team_then i.worked e.worked;
      dispatched = λ at h. e.dispatched at (i.dispatched at h);
      turns = counts_then g.L.Link c.args.until.now c.args.served.0 c.loop.served.0 c.serve_once-served.result.0 i.turns e.turns;
      clock = clock_stands _ _ _ _ runs i.clock e.cause;
      calm = e.calm runs ∙ i.calm;
    }
