use Rattle.std.proofs.Common.{◌∙◌, ◌++◌, ◌∷◌, ap, arith, []}
use Rattle.node_core.specs.Packets.{PacketState}
use Rattle.node_core.proofs.PlanLemmas.{plan_step}
use Rattle.node_core.proofs.plan.plan_all.Goals as goal

pub loop-packet-preserved : goal.loop-packet-preserved
loop-packet-preserved c =
    let so_far = plan_step c.args.aim.favourite c.args.aim.is_alive c.args.packets.now c.args.after.now.items c.args.sendings.now.items
    c.args.peers.now c.loop-packet.after.items c.push.new.self.items c.loop-packet.sendings.items c.plan.new.sendings.items
    c.loop-packet.peers c.plan.new.peers c.loop-packet.packet-index c.packet-item.result c.in_ok-packet.packet
    (omega arith) c.packet-item.is c.in_ok-packet.ensures
    (c.in_ok-push.ensures.items ∙ ap (λ (p : PacketState). c.loop-packet.after.items ++ p ∷ []) c.in_ok-plan.ensures.packet) c.in_ok-plan.ensures.sendings c.in_ok-plan.ensures.peers
    (c.loop-packet.invariant.0, c.loop-packet.invariant.1, c.loop-packet.invariant.2) in
    (so_far.0, so_far.1, so_far.2, c.plan.ensures.numbers)
