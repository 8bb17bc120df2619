use Rattle.gtpp_message.proofs.PacketLemmas.{packet_counted}
use Rattle.gtpp_message.proofs.packet.Packet.records.Goals as goal

pub of-requires-in-Full : goal.of-requires-in-Full
of-requires-in-Full c =
    let whole = rw c.in-Full.is at c.requires in
    rw c.split_at.ensures.back (packet_counted c.in-Full.count c.in-Full.format c.in-Full.version c.in-Full.value.now whole).there

pub returns-in-Full-clause-count : goal.returns-in-Full-clause-count
returns-in-Full-clause-count c =
    let whole = rw c.in-Full.is at c.requires in
    rw (c.in-Full.is, c.of-in-Full.ensures, c.split_at.ensures.back) (packet_counted c.in-Full.count c.in-Full.format c.in-Full.version c.in-Full.value.now whole).so_many
