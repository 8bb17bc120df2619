use Rattle.std.proofs.Common.{◌≡◌, ◌≤◌, length, is_ok, true, []}
use Rattle.std.specs.Result.{result_unwrap_or}
use Rattle.gtpp_elements.specs.Elements.{first_value}
use Rattle.gtpp_elements.proofs.ReadingLemmas.{left}
use Rattle.gtpp_elements.proofs.elements.Elements.first.Given as goal

-- the first element of the type, if there is one, is among those that are left
abbrev pub invariant-loop-found : goal.invariant-loop-found
invariant-loop-found l = record {
  within : length l.rest ≤ length l.self-inside.body.now;
  whole : is_ok (left l.self-inside.body.now l.rest) ≡ true;
  same : first_value l.kind (result_unwrap_or (left l.self-inside.body.now l.rest) []) ≡ first_value l.kind l.self;
}

abbrev pub decreases-loop-found : goal.decreases-loop-found
decreases-loop-found l = length l.rest
