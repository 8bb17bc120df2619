use Rattle.std.proofs.Common.{◌≡◌, length}
use Rattle.dup_buffer.specs.Stored.{copies_of}
use Rattle.gateway_index.specs.CopySteps.{MayStepEach, with_steps}
use Rattle.gateway_index.specs.HeldRoom.{HasRoom}
use Rattle.gateway_index.proofs.held_pair.follow.Given as goal

-- the steps that are left may be taken, and come to what all come to
abbrev pub invariant-loop-step : goal.invariant-loop-step
invariant-loop-step l =
    HasRoom l.held × MayStepEach l.left (copies_of l.held) × (with_steps l.left (copies_of l.held) ≡ with_steps l.given (copies_of l.fn.held))

abbrev pub decreases-loop-step : goal.decreases-loop-step
decreases-loop-step l = length l.left
