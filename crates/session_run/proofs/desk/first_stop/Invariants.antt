use Rattle.std.proofs.Common.{◌≡◌, take}
use Rattle.session_run.specs.Desks.{first_stop}
use Rattle.session_run.proofs.desk.first_stop.Given as goal

-- the first cause among the first ones
abbrev pub invariant-loop-answer : goal.invariant-loop-answer
invariant-loop-answer l = l.stop ≡ first_stop (take l.answer-index l.served)
