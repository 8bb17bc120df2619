use Rattle.std.proofs.Common.{◌≡◌, refl, subst, ap, set, ◌+◌, ◌-◌, Some, None, slice_get, arith}
use Rattle.replay_world.proofs.Names.{IfOk-weaker, IsDelivered, MachineStands, passed, slice_get_past}
use Rattle.replay_world.proofs.DeliverLemmas.{arrived, arrived_nowhere, message_here}
use Rattle.replay_world.proofs.GatewayEventLemmas.{called_stands, machine_at, machines_count}
use Rattle.replay_world.proofs.RefusalLemmas.{read_at}
use Rattle.replay_world.proofs.replay.Replay.deliver_to_gateway.Goals as goal

pub returns-then-index-len : goal.returns-then-index-len
returns-then-index-len c = λ v stands to.
    arrived_nowhere v _ _ to _ stands
    (omega (
      arith,
      c.if-index-len.true,
      c.len.ensures,
      c.from-index.ensures,
      c.args.self.now.gateways.ok.0,
      machines_count _ _ stands,
    ))

-- its message was sent, so it is there
pub returns-then-at-len : goal.returns-then-at-len
returns-then-at-len c = λ v stands to.
    let gone : slice_get c.args.self.now.messages.items (c.args.number - 1) ≡ None =
    slice_get_past c.args.self.now.messages.items (c.args.number - 1)
    (omega (arith, c.if-at-len.true, c.len-2.ensures, c.index_of-at.ensures, c.args.self.now.messages.ok.0)) in
    let there : slice_get c.args.self.now.messages.items (c.args.number - 1) ≡ Some to.message =
    cc (stands.messages, to.sent) in
    cc

pub returns : goal.returns
returns c = λ v stands to.
    let has = read_at _ c.from-index.ensures
    (omega (arith, c.if-index-len.false, c.len.ensures, c.args.self.now.gateways.ok.0)) c.index_mut.ensures.value in
    let sent = read_at _ c.index_of-at.ensures
    (omega (arith, c.if-at-len.false, c.len-2.ensures, c.args.self.now.messages.ok.0)) c.index.ensures in
    let back : c.args.place + 1 - 1 ≡ c.args.place = omega arith in
    let here = machine_at _ _ stands _ back has in
    let there = subst (λ p. MachineStands v.setup p here.gateway here.machine c.index_mut.result.now) back
    (called_stands (passed c.args.number v) (c.args.place + 1) here) in
    let message = message_here v to stands sent in
    let done = subst (λ m. IsDelivered v.setup c.args.place here.gateway here.machine v.world.now m
    c.in_ok-delivery.delivery c.deliver.new.self) message
    (subst (λ t. IsDelivered v.setup c.args.place here.gateway here.machine t c.index.result.now
    c.in_ok-delivery.delivery c.deliver.new.self) stands.now
    (c.in_ok-delivery.ensures v.setup c.args.place here.gateway here.machine there)) in
    IfOk-weaker c.send_delivered.result _ _ (λ on sends. arrived v _ _ to _ _ here.has_gateway here.has_machine
    c.args.out.now _ stands done refl
    (ap (λ k. set c.args.self.now.gateways.items k c.deliver.new.self) c.from-index.ensures) sends.sent sends.goes
    sends.told) c.send_delivered.ensures
