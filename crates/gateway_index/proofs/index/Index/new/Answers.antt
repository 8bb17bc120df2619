use Rattle.gateway_index.proofs.HeldStates.{none_told}
use Rattle.gateway_index.proofs.IndexLemmas.{fresh_follows}
use Rattle.gateway_index.proofs.index.Index.new.Goals as goal

pub invariant_of-result : goal.invariant_of-result
invariant_of-result c = record { told = none_told _ _ c.in_ok-nodes.ensures }

pub returns : goal.returns
returns c = fresh_follows _ c.a_window_follows_its_history.ensures.none c.in_ok-nodes.ensures c.in_ok-held.ensures c.none.ensures c.none-2.ensures
