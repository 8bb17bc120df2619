use Rattle.std.proofs.Common.{◌≡◌, drop}
use Rattle.gateway_index.specs.Nodes.{opening_at}
use Rattle.gateway_index.proofs.nodes.opening_at.Given as goal

-- no slot so far is the node's
abbrev pub invariant-loop-slot : goal.invariant-loop-slot
invariant-loop-slot l = opening_at l.firm l.slots l.node.0 ≡ opening_at l.firm (drop l.slot-index l.slots) l.node.0
