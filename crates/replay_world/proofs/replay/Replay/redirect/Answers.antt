use Rattle.std.proofs.Common.{refl, ◌-◌, ◌<◌, length, arith, sym, subst}
use Rattle.replay_world.proofs.Names.{All-weaker, HasMoved, history_of, MachineStands, node_at, on_ok_weaker, redirected}
use Rattle.gateway_answer.specs.Told.{paths_of}
use Rattle.replay_gateway.specs.Redirecting.{KnowsNear}
use Rattle.replay_world.proofs.GatewayEventLemmas.{called_stands, machine_at, no_machine, runs_there}
use Rattle.replay_world.proofs.QuietLemmas.{does_redirect, runs_to_redirect}
use Rattle.replay_world.proofs.RefusalLemmas.{read_at}
use Rattle.replay_world.proofs.replay.Replay.redirect.Goals as goal

pub returns-then-index-len : goal.returns-then-index-len
returns-then-index-len c = λ v number other stands is same none.
    no_machine v _ stands _ is (runs_to_redirect v.world number c.args.cause other none)
    (omega (arith, c.if-index-len.true, c.len.ensures, c.from-index.ensures, c.args.self.now.gateways.ok.0))

pub returns : goal.returns
returns c = λ v number other stands is same none.
    let has = read_at _ c.from-index.ensures
    (omega (arith, c.if-index-len.false, c.len.ensures, c.args.self.now.gateways.ok.0)) c.index_mut.ensures.value in
    let here = machine_at v _ stands _ is has in
    let runs = runs_there v.world number here.has_gateway (runs_to_redirect v.world number c.args.cause other none) in
    let near : KnowsNear here.gateway =
    All-weaker (λ p. node_at p < length v.world.nodes) (λ p. node_at p < 256)
    (λ p less. omega (arith, stands.few_nodes)) (paths_of (history_of here.gateway.book))
    (c.paths_lead_to_nodes.ensures v.world (number - 1) here.gateway stands.reached here.has_gateway) in
    let moved = c.in_ok-messages.ensures v.setup here.gateway here.machine
    (subst (λ p. MachineStands v.setup p here.gateway here.machine c.index_mut.result.now) is
    (called_stands v number here)) runs near in
    let as_said = subst (λ o. HasMoved v.setup (number - 1) (redirected (number - 1) c.args.cause o here.gateway)
    here.machine c.in_ok-messages.messages.items c.redirect.new.self) (sym same)
    (subst (λ p. HasMoved v.setup p (redirected p c.args.cause c.args.to here.gateway) here.machine
    c.in_ok-messages.messages.items c.redirect.new.self) (sym is) moved) in
    on_ok_weaker c.send_all.result (λ sends. does_redirect v _ _ _ _ here.has_gateway here.has_machine none stands as_said refl
    (cc c.from-index.ensures) sends) c.send_all.ensures
