use Rattle.std.proofs.Common.{sym, ◌∙◌}
use Rattle.gateway_index.proofs.SlotLemmas.{here, not_here, nowhere}
use Rattle.gateway_index.proofs.nodes.opening_at.Goals as goal

pub returns-then-slot-node : goal.returns-then-slot-node
returns-then-slot-node c = c.opening.ensures ∙ sym (c.loop-slot.invariant ∙ here c.args.firm c.args.node.0 c.args.slots.now c.loop-slot.slot-index _ c.loop-slot-test.true c.if-slot-node.true)

pub loop-slot-preserved : goal.loop-slot-preserved
loop-slot-preserved c = c.loop-slot.invariant ∙ not_here c.args.firm c.args.node.0 c.args.slots.now c.loop-slot.slot-index _ c.loop-slot-test.true c.if-slot-node.false

pub returns : goal.returns
returns c = sym (c.loop-slot.invariant ∙ nowhere c.args.firm c.args.node.0 c.args.slots.now c.loop-slot.slot-index c.loop-slot-test.false)
