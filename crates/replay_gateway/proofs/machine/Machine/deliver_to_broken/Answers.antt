use Rattle.replay_gateway.proofs.Names.{AsksReopening, committing, IfOk-weaker, machine_with, moved_by, sequel_on}
use Rattle.replay_gateway.proofs.DeliveredLemmas.{met_there, opening_moved, runs_there, taken_there}
use Rattle.replay_gateway.proofs.machine.Machine.deliver_to_broken.Goals as goal

pub returns-in-Some : goal.returns-in-Some
returns-in-Some c = λ setup place g m stands runs breaks.
    met_there _ _ g m _ _ runs breaks c.in-Some.ending (c.in_ok-sent.ensures setup place g m stands runs)
    (λ k n there. c.in-Some.ensures setup place k n there)

pub returns-in-None : goal.returns-in-None
returns-in-None c = λ setup place g m stands runs breaks.
    let goes = c.in_ok-sent.ensures setup place g m stands runs in
    let moved = opening_moved _ _ g m c.args.now c.args.message.now runs breaks goes in
    let s = sequel_on m AsksReopening in
    let up = runs_there _ _ g m c.args.now c.args.message.now runs breaks goes
    (λ k n there. c.in-None.ensures setup place k n there) in
    IfOk-weaker _ _ _
    (λ delivery more. taken_there _ _ g m _ _ runs breaks goes (λ k n there. c.in-None.ensures setup place k n there)
    more)
    (c.take_after.ensures setup place (moved_by s committing m g).gateway (machine_with m s) moved.moved.stands up.0
    up.1)
