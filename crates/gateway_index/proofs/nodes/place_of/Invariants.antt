use Rattle.std.proofs.Common.{◌≡◌, ◌+◌, drop}
use Rattle.gateway_index.specs.Nodes.{place_in}
use Rattle.gateway_index.proofs.nodes.place_of.Given as goal

-- no slot so far is the node's
abbrev pub invariant-loop-place : goal.invariant-loop-place
invariant-loop-place l = place_in l.slots l.node.0 ≡ l.place + place_in (drop l.place l.slots) l.node.0
