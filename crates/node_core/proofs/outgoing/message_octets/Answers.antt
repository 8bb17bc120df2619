use Rattle.std.proofs.Common.{refl, arith}
use Rattle.node_core.proofs.WrittenLemmas.{length-written}
use Rattle.node_core.proofs.outgoing.message_octets.Goals as goal

pub unreachable-requires : goal.unreachable-requires
unreachable-requires c =
    let full = (c.in-Err.ensures.full c.in-Err._full.free).0 refl in
    search (arith, length-written)
