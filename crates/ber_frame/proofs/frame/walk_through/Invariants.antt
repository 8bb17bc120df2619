use Rattle.std.proofs.Common.{Result}
use Rattle.ber_frame.specs.declared.fault.BerFault.{BerFault}
use Rattle.ber_frame.specs.Walk.{Place, Fate, steps_left}
use Rattle.ber_frame.proofs.frame.walk_through.Given as goal

abbrev pub invariant-loop-walk : goal.invariant-loop-walk
invariant-loop-walk l = (outcome : Result Place BerFault) → Fate l.initial.walk outcome → Fate l.walk outcome

abbrev pub decreases-loop-walk : goal.decreases-loop-walk
decreases-loop-walk l = steps_left l.walk
