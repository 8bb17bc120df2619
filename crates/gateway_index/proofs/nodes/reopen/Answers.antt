use Rattle.std.proofs.Common.{arith}
use Rattle.gateway_index.proofs.Names.{get_or_default, map_over_more, reopened, Slot}
use Rattle.gateway_index.proofs.nodes.reopen.Goals as goal

pub loop-slot-preserved : goal.loop-slot-preserved
loop-slot-preserved c = rw c.reopened.ensures (map_over_more (λ (slot : Slot). reopened c.args.node.0 c.args.opening slot) c.args.slots.now c.loop-slot.slots c.loop-slot.slot-index _ c.loop-slot-test.true c.loop-slot.invariant (get_or_default c.loop-slot.slots c.loop-slot.slot-index _ _ (omega arith)))
