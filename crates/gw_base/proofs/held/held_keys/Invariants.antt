use Rattle.std.proofs.Common.{◌≡◌, ◌++◌, length}
use Rattle.gw_base.specs.HeldKeys.{held_keys}
use Rattle.gw_base.proofs.held.held_keys.Given as goal

-- the keys so far and those of what is left are those of the whole history
abbrev pub invariant-loop-entry : goal.invariant-loop-entry
invariant-loop-entry l = l.keys.items ++ held_keys l.left ≡ held_keys l.history

abbrev pub decreases-loop-entry : goal.decreases-loop-entry
decreases-loop-entry l = length l.left
