use Rattle.std.proofs.Common.{◌∙◌, subst, sym}
use Rattle.gate_journal.specs.Moments.{RoseUpTo}
use Rattle.gate_journal.proofs.Plans.{first_runs, second_runs}
use Rattle.gate_journal.proofs.Counts.{more_calls}
use Rattle.gate_journal.proofs.Turns.{other_bool}
use Rattle.gate_journal.proofs.opening.make_anew.Goals as goal

pub returns-in-Err-found-clause-calls_device : goal.returns-in-Err-found-clause-calls_device
returns-in-Err-found-clause-calls_device g c = λ told device.
    let found = c.in-Err-found.ensures.counted.calls told in
    subst (λ a. RoseUpTo 4 (g.A.Area.calls c.args.area) (g.A.Area.calls a)) (sym c.into_area.ensures.area)
    (more_calls 2 2 _ _ _ _ (c.in-Ok.ensures.calls told) found).failed

pub returns-in-Err-found-clause-planned : goal.returns-in-Err-found-clause-planned
returns-in-Err-found-clause-planned g c = λ tells runs.
    let laid = c.in-Ok.ensures.planned tells (first_runs _ runs) in
    absurd (other_bool ((c.in-Err-found.ensures.planned tells).fails ∙ second_runs _ runs _ _ laid.after))
