use Rattle.std.proofs.Common.{rules}
use Rattle.gateway_index.specs.HeldPairs.{held_in}
use Rattle.gateway_index.proofs.PairLemmas.{both_are}
use Rattle.gateway_index.proofs.held_pair.HeldPair.new.Goals as goal

pub invariant_of-result : goal.invariant_of-result
invariant_of-result c = search rules

pub returns : goal.returns
unfolding held_in
returns c = both_are c.in_ok-firm.ensures.empty c.in_ok-live.ensures.empty
