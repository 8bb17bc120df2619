use Rattle.std.proofs.Common.{◌≡◌, ◌≤◌, length}
use Rattle.std.specs.Result.{result_err}
use Rattle.gtpp_elements.specs.Reading.{elements_in}
use Rattle.gtpp_elements.proofs.ReadingLemmas.{left}
use Rattle.gtpp_elements.proofs.elements.check.Given as goal

-- what is left has the body's first fault, if there is one
abbrev pub invariant-loop-rest : goal.invariant-loop-rest
invariant-loop-rest l = (length l.rest ≤ length l.body) × (result_err (left l.body l.rest) ≡ result_err (elements_in l.body))

abbrev pub decreases-loop-rest : goal.decreases-loop-rest
decreases-loop-rest l = length l.rest
