use Rattle.std.proofs.Common.{arith}
use Rattle.gateway_index.proofs.Names.{get_or_default, map_over_more, settled_slot, Slot}
use Rattle.gateway_index.proofs.nodes.settle.Goals as goal

pub loop-slot-preserved : goal.loop-slot-preserved
loop-slot-preserved c = rw c.settled.ensures (map_over_more (λ (slot : Slot). settled_slot c.args.firm slot) c.args.slots.now c.loop-slot.slots c.loop-slot.slot-index _ c.loop-slot-test.true c.loop-slot.invariant (get_or_default c.loop-slot.slots c.loop-slot.slot-index _ _ (omega arith)))
