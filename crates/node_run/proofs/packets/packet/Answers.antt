use Rattle.std.proofs.Common.{List, ℕ, ap, arith, ◌∙◌}
use Rattle.gtpp_message.specs.Packet.{PacketForm}
use Rattle.gtpp_message.specs.PacketWriting.{with_record}
use Rattle.node_core.specs.Drafts.{addition_fault}
use Rattle.node_run.proofs.PacketLemmas.{adds_next, packet_upto, with_next_record}
use Rattle.node_run.proofs.packets.packet.Goals as goal

pub loop-n-preserved : goal.loop-n-preserved
loop-n-preserved c =
    c.in_default.ensures.added ∙ ap (λ (d : PacketForm). with_record d c.record.result) c.loop-n.invariant
    ∙ ap (λ (o : List ℕ). with_record (packet_upto c.args.number c.loop-n.n) o) c.record.ensures
    ∙ with_next_record c.args.number c.loop-n.n

pub no_memory-requires : goal.no_memory-requires
no_memory-requires c =
    c.in-Err.ensures.refused ∙ ap (λ (d : PacketForm). addition_fault d c.record.result) c.loop-n.invariant
    ∙ ap (λ (o : List ℕ). addition_fault (packet_upto c.args.number c.loop-n.n) o) c.record.ensures
    ∙ adds_next c.args.number c.loop-n.n (omega (arith, c.loop-n-test.true))
