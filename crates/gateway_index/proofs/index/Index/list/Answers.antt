use Rattle.std.proofs.Common.{refl, rules}
use Rattle.gateway_index.specs.Index.{side_of}
use Rattle.gateway_index.proofs.HeldStates.{both_told, listed_held}
use Rattle.gateway_index.proofs.IndexLemmas.{stepped}
use Rattle.gateway_index.proofs.index.Index.list.Goals as goal

pub invariant_of-self : goal.invariant_of-self
invariant_of-self c = search (rules, both_told, listed_held)

pub returns : goal.returns
unfolding side_of
returns c = stepped (λ side. side.totals) c.set_within.ensures.step c.take.ensures refl refl
