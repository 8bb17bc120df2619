use Rattle.std.proofs.Common.{true≢false}
use Rattle.std.proofs.lemmas.List.{take_all, take_more}
use Rattle.gateway_index.proofs.PairLemmas.{more_stepped, none_stepped}
use Rattle.gateway_index.proofs.window_pair.WindowPair.set_within.Goals as goal

pub invariant_of-self : goal.invariant_of-self
invariant_of-self c = record { agree = λ e. absurd (true≢false e) }

pub loop-number-init : goal.loop-number-init
loop-number-init c = none_stepped c.args.state c.args.self.now

pub loop-number-preserved : goal.loop-number-preserved
loop-number-preserved c =
    rw (take_more c.args.numbers.now c.loop-number.number-index 0 c.loop-number-test.true) (more_stepped _ _ c.args.state c.loop-number.invariant c.set_held.ensures)

pub returns : goal.returns
returns c = rw (take_all c.loop-number.number-index c.args.numbers.now c.loop-number-test.false) at c.loop-number.invariant
