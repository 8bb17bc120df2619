use Rattle.std.proofs.Common.{◌≡◌, ◌∙◌, sym, ◌+◌, ◌-◌, ◌<◌, length, arith}
use Rattle.replay_world.proofs.GatewayEventLemmas.{machines_count}
use Rattle.replay_world.proofs.SettleLemmas.{place_is, settled_next, settled_none, settling_is, there_next}
use Rattle.replay_world.proofs.StepsLemmas.{so_far_all}
use Rattle.replay_world.proofs.replay.Replay.settle_each.Goals as goal

pub loop-index-init : goal.loop-index-init
loop-index-init c = λ v stands unarmed. settled_none v _ stands unarmed

pub loop-index-preserved : goal.loop-index-preserved
loop-index-preserved c = λ v stands unarmed.
    let i = c.loop-index.index in
    let less : i < length v.world.gateways =
    omega (arith, c.len-index-end.ensures, c.args.self.now.gateways.ok.0, machines_count v _ stands) in
    let to = c.loop-index.invariant v stands unarmed in
    let done = c.in_ok-settle_gateway.ensures _ (i + 1) to.so.does.makes.stands to.unarmed
    (place_is i (length v.world.gateways) less stands.few_gateways ∙ sym c.octet.ensures)
    (there_next v i _ _ c.settle_gateway.new.out _ c.settle_gateway.new.self to less) in
    settled_next v i _ _ _ _ _ to less done

pub returns : goal.returns
returns c = λ v stands unarmed.
    let none : length v.world.gateways - c.loop-index.index ≡ 0 =
    omega (arith, c.len-index-end.ensures, c.args.self.now.gateways.ok.0, machines_count v _ stands) in
    rw (settling_is v) at (so_far_all v _ _ (rw none at (c.loop-index.invariant v stands unarmed).so))
