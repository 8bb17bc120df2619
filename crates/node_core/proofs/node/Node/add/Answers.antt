use Rattle.std.proofs.Common.{length-append, arith}
use Rattle.node_core.proofs.NodeLemmas.{numbered_next}
use Rattle.node_core.proofs.node.Node.add.Goals as goal

pub invariant_of-self-2 : goal.invariant_of-self-2
invariant_of-self-2 c = search (arith, length-append, numbered_next)
