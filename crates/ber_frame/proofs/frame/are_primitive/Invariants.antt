use Rattle.std.proofs.Common.{length}
use Rattle.ber_frame.specs.Reading.{are_primitive}
use Rattle.ber_frame.proofs.Flats.{Tells}
use Rattle.ber_frame.proofs.frame.are_primitive.Given as goal

abbrev pub invariant-loop-rest : goal.invariant-loop-rest
invariant-loop-rest l = Tells l.rest (are_primitive l.octets)

abbrev pub decreases-loop-rest : goal.decreases-loop-rest
decreases-loop-rest l = length l.rest
