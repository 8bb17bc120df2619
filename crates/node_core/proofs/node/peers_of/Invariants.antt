use Rattle.std.proofs.Common.{◌≡◌, map, take}
use Rattle.node_core.specs.Peers.{peer_anew}
use Rattle.node_core.proofs.node.peers_of.Given as goal

abbrev pub invariant-loop-address : goal.invariant-loop-address
invariant-loop-address l = l.peers.items ≡ map peer_anew (take l.address-index l.gateways)
