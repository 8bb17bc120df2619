use Rattle.gtpp_message.proofs.PacketLemmas.{no_part, part_is, part_there}
use Rattle.gtpp_message.proofs.packet.Packet.part.Goals as goal

pub unreachable-requires-in-None : goal.unreachable-requires-in-None
unreachable-requires-in-None c =
    let whole = rw c.in-Full.is at c.requires.whole in
    let within = rw c.in-Full.is at c.requires.within in
    let there = part_there c.in-Full.count c.in-Full.format c.in-Full.version c.in-Full.value.now c.args.k whole within in
    no_part _ _ _ there c.in-None.ensures.part c.split_at.ensures.back

pub returns-clause-part : goal.returns-clause-part
returns-clause-part c =
    let whole = rw c.in-Full.is at c.requires.whole in
    let within = rw c.in-Full.is at c.requires.within in
    rw c.in-Full.is (part_is c.in-Full.count c.in-Full.format c.in-Full.version c.in-Full.value.now _ _ _ whole within c.in-Some.ensures.part c.split_at.ensures.back)
