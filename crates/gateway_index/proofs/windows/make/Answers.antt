use Rattle.std.proofs.Common.{ℕ, subst, arith}
use Rattle.gateway_index.specs.WindowPairs.{AreBlank}
use Rattle.gateway_index.proofs.PairLemmas.{blank_more, blank_none}
use Rattle.gateway_index.proofs.windows.make.Goals as goal

pub loop-preserved : goal.loop-preserved
loop-preserved c = rw c.in_ok-push.ensures.items (blank_more c.loop.counter c.loop.pairs.items _ c.loop.invariant c.in_ok-pair.ensures)

pub loop-init : goal.loop-init
loop-init c = rw c.in_ok-pairs.ensures.items blank_none

pub returns : goal.returns
returns c = subst (λ (n : ℕ). AreBlank n c.loop.pairs.items) (omega (arith, c.loop-test.false)) c.loop.invariant
