use Rattle.std.proofs.Common.{None, rules, true, ◌≡◌, ◌∙◌}
use Rattle.session_run.proofs.ReceptionLemmas.{clock_stands, dispatched_with}
use Rattle.session_run.proofs.receiving.receive_until_quiet.Goals as goal
use Rattle.session_run.proofs.receiving.receive_until_quiet.Goals.{in-None, in-Some+then-is_stopped, in-Some+else-is_stopped+then-is_some, in-Some+else-is_stopped+else-is_some+then-is_quiet+then-is_last}

pub loop-preserved : goal.loop-preserved
loop-preserved g c =
    let i = c.loop.invariant in
    let e = c.step-is_quiet.ensures in
    let runs : c.step-is_quiet.new.self.stop ≡ None = search rules in
    record {
      own = e.own;
      runs = runs;
      dispatched = λ at h. e.dispatched at (i.dispatched at h);
      clock = clock_stands _ _ _ _ runs i.clock e.cause;
      calm = e.turn.calm runs ∙ i.calm;
    }

pub returns-clause-dispatched : goal.returns-clause-dispatched
returns-clause-dispatched g c = λ at h.
    let before = c.loop.invariant.dispatched at h in
    elim c.match-next.branch [
      | in-None w ↦ rw w.reception-is before
      | in-Some+then-is_stopped w ↦ rw w.reception-is before
      | in-Some+else-is_stopped+then-is_some w ↦ rw w.reception-is (w.step-is_quiet.ensures.dispatched at before)
      | in-Some+else-is_stopped+else-is_some+then-is_quiet+then-is_last w ↦ rw w.reception-is
          (dispatched_with g.L.Link at w.step-is_quiet.new.self w.step-is_quiet.new.self.left true (w.step-is_quiet.ensures.dispatched at before))
    ]
