use Rattle.std.proofs.Common.{◌≡◌, ◌++◌, take, drop, map}
use Rattle.gateway_index.proofs.Names.{settled_slot, Slot}
use Rattle.gateway_index.proofs.nodes.settle.Given as goal

-- the slots so far are changed, and the others are as they were
abbrev pub invariant-loop-slot : goal.invariant-loop-slot
invariant-loop-slot l = l.slots ≡ map (λ (slot : Slot). settled_slot l.firm slot) (take l.slot-index l.initial.slots) ++ drop l.slot-index l.initial.slots
