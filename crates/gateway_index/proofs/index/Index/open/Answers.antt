use Rattle.std.proofs.Common.{rules}
use Rattle.gateway_index.specs.Index.{side_of}
use Rattle.gateway_index.proofs.HeldStates.{both_told, opened_held}
use Rattle.gateway_index.proofs.IndexLemmas.{place_left, stepped}
use Rattle.gateway_index.proofs.index.Index.open.Goals as goal

pub open-requires : goal.open-requires
open-requires c = place_left c.args.self.now c.args.node c.requires

pub invariant_of-self : goal.invariant_of-self
invariant_of-self c = search (rules, both_told, opened_held)

pub returns : goal.returns
unfolding side_of
returns c = search (rules, stepped)
