use Rattle.std.proofs.Common.{sym, ◌∙◌}
use Rattle.gateway_index.specs.WindowPairs.{seen_in}
use Rattle.gateway_index.proofs.PairLemmas.{both_are}
use Rattle.gateway_index.proofs.window_pair.WindowPair.new.Goals as goal

pub invariant_of-result : goal.invariant_of-result
invariant_of-result c = record { agree = λ e. rw c.in_ok-given.ensures.items (tt, c.in_ok-firm.ensures ∙ sym c.in_ok-live.ensures) }

pub returns : goal.returns
unfolding seen_in
returns c = both_are c.in_ok-firm.ensures c.in_ok-live.ensures
