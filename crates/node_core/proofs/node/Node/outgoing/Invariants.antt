use Rattle.std.proofs.Common.{◌≡◌, map, take}
use Rattle.node_core.specs.Octets.{outgoing}
use Rattle.node_core.proofs.node.Node.outgoing.Given as goal

abbrev pub invariant-loop-sending : goal.invariant-loop-sending
invariant-loop-sending l = l.sent.items ≡ map (outgoing l.self) (take l.sending-index l.sendings)
