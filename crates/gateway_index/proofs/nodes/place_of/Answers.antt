use Rattle.std.proofs.Common.{arith}
use Rattle.gateway_index.proofs.SlotLemmas.{found_here, found_later, found_nowhere}
use Rattle.gateway_index.proofs.nodes.place_of.Goals as goal

pub returns-then-slots-place : goal.returns-then-slots-place
returns-then-slots-place c = omega (arith, c.loop-place.invariant, found_here c.args.node.0 c.args.slots.now c.loop-place.place _ c.loop-place-test.true c.if-slots-place.true)

pub loop-place-preserved : goal.loop-place-preserved
loop-place-preserved c = omega (arith, c.loop-place.invariant, found_later c.args.node.0 c.args.slots.now c.loop-place.place _ c.loop-place-test.true c.if-slots-place.false)

pub returns : goal.returns
returns c = omega (arith, c.loop-place.invariant, found_nowhere c.args.node.0 c.args.slots.now c.loop-place.place c.loop-place-test.false, c.loop-place-test.false)
