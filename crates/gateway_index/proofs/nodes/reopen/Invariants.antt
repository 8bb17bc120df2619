use Rattle.std.proofs.Common.{◌≡◌, ◌++◌, take, drop, map}
use Rattle.gateway_index.proofs.Names.{reopened, Slot}
use Rattle.gateway_index.proofs.nodes.reopen.Given as goal

-- the slots so far are changed, and the others are as they were
abbrev pub invariant-loop-slot : goal.invariant-loop-slot
invariant-loop-slot l = l.slots ≡ map (λ (slot : Slot). reopened l.node.0 l.opening slot) (take l.slot-index l.initial.slots) ++ drop l.slot-index l.initial.slots
