use Rattle.std.proofs.Common.{◌≡◌, ap, get_or, arith}
use Rattle.std.proofs.lemmas.Grind.{common_steps}
use Rattle.node_core.specs.Packets.{PacketState, is_done, is_resolved, packet_hearing, while_open}
use Rattle.node_core.specs.declared.packets.Made.{Made}
use Rattle.node_core.proofs.SettledLemmas.{changed_front, done_front, heard_more, made_front, made_step}
use Rattle.node_core.proofs.packets.hear_all.Goals as goal

pub loop-i-init : goal.loop-i-init
loop-i-init c = search (arith, changed_front, made_front)

pub loop-i-preserved : goal.loop-i-preserved
loop-i-preserved c =
    let hears : PacketState → PacketState = while_open (packet_hearing c.args.port c.args.gateway c.args.cause c.args.numbers.now) in
    let below = c.loop-i-test.true in
    let so_far = c.loop-i.invariant in
    let packet : PacketState = get_or c.loop-i.packets c.loop-i.i c.index-packets-i.result in
    let is : packet ≡ get_or c.loop-i.packets c.loop-i.i packet = ap (get_or c.loop-i.packets c.loop-i.i) c.index-packets-i.is in (
      search (arith, heard_more),
      made_step is_resolved hears c.args.packets.now c.loop-i.packets c.loop-i.i packet c.loop-i.made.resolved
          c.hear_one.result.resolved c.or-made.result.resolved below so_far.0 is so_far.1 c.hear_one.ensures.resolved
          (ap (λ (made : Made). made.resolved) c.or-made.ensures),
      made_step is_done hears c.args.packets.now c.loop-i.packets c.loop-i.i packet c.loop-i.made.done
          c.hear_one.result.done c.or-made.result.done below so_far.0 is so_far.2 c.hear_one.ensures.done
          (ap (λ (made : Made). made.done) c.or-made.ensures),
    )

pub returns-clause-still : goal.returns-clause-still
returns-clause-still c = search (arith, common_steps, done_front)
