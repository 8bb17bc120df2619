use Rattle.std.proofs.Common.{refl}
use Rattle.std.proofs.lemmas.List.Elements.{All-nil}
use Rattle.gateway_index.specs.Nodes.{IsSame}
use Rattle.gateway_index.proofs.NodeLemmas.{blank_beside, no_nodes}
use Rattle.gateway_index.proofs.nodes.NodeTable.new.Goals as goal

pub invariant_of-result-clause-beside : goal.invariant_of-result-clause-beside
invariant_of-result-clause-beside c = blank_beside _ _ _ c.in_ok-windows.ensures

pub invariant_of-result-clause-same : goal.invariant_of-result-clause-same
invariant_of-result-clause-same c = λ e. rw c.in_ok-slots.ensures.items (record { known = refl; openings = All-nil IsSame })

pub returns : goal.returns
returns c = no_nodes _ c.in_ok-slots.ensures.items c.in_ok-windows.ensures
