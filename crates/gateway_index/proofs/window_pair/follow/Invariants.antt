use Rattle.std.proofs.Common.{◌≡◌, length}
use Rattle.gateway_index.proofs.Names.{half, MaySetEach, seen_of, with_each}
use Rattle.gateway_index.proofs.window_pair.follow.Given as goal

-- the steps that are left may be taken, and come to what all come to
abbrev pub invariant-loop-step : goal.invariant-loop-step
invariant-loop-step l = MaySetEach l.left (seen_of half l.window) × (with_each l.left (seen_of half l.window) ≡ with_each l.given (seen_of half l.fn.window))

abbrev pub decreases-loop-step : goal.decreases-loop-step
decreases-loop-step l = length l.left
