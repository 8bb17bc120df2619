use Rattle.session_run.proofs.ReceptionLemmas.{clock_told, dispatched_on, turn_taken}
use Rattle.session_run.proofs.reception.Reception.step.Goals as goal

pub returns-clause-dispatched : goal.returns-clause-dispatched
returns-clause-dispatched g c =
    dispatched_on g.L.Link c.args.inboxes.now c.args.self.now _ c.step-dispatched.result
    (g.C.Clock.faults c.args.clock.now)
    (g.C.Clock.faults c.step-dispatched.new.clock) c.step-dispatched.ensures.tells c.stop_of-self.ensures c.requires.own

pub returns-clause-turn : goal.returns-clause-turn
returns-clause-turn g c =
    turn_taken g.L.Link c.args.inboxes.now c.args.self.now _ c.step-dispatched.result
    (g.C.Clock.faults c.args.clock.now)
    (g.C.Clock.faults c.step-dispatched.new.clock) c.step-dispatched.ensures.tells c.stop_of-self.ensures
    c.was_quiet.result c.was_quiet.ensures

pub returns-clause-cause : goal.returns-clause-cause
returns-clause-cause g c =
    let old = c.args.self.now in
    clock_told g.L.Link c.args.inboxes.now old
    (record { dispatcher = c.step-dispatched.new.self; link = c.step-dispatched.new.link; left = old.left; is_over = old.is_over; stop = c.stop_of-self.result })
    c.step-dispatched.result (g.C.Clock.faults c.args.clock.now) (g.C.Clock.faults c.step-dispatched.new.clock)
    c.step-dispatched.ensures.tells c.stop_of-self.ensures c.step-dispatched.ensures.stood
