use Rattle.std.proofs.lemmas.List.{take_all, take_more}
use Rattle.gateway_index.proofs.HeldPairLemmas.{taken_more, taken_none}
use Rattle.gateway_index.proofs.held_pair.HeldPair.take.Goals as goal

pub loop-number-init : goal.loop-number-init
loop-number-init c = taken_none c.args.node.0 c.args.self.now

pub loop-number-preserved : goal.loop-number-preserved
loop-number-preserved c =
    rw (take_more c.args.numbers.now c.loop-number.number-index 0 c.loop-number-test.true) (taken_more c.args.node.0 _ _ c.loop-number.invariant c.take_out.ensures)

pub returns : goal.returns
returns c = rw (take_all c.loop-number.number-index c.args.numbers.now c.loop-number-test.false) at c.loop-number.invariant
