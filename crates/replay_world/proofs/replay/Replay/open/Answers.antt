use Rattle.std.proofs.Common.{refl, ◌-◌, arith}
use Rattle.replay_world.proofs.Names.{MachineStands, on_ok_weaker, opened, rules_in, still}
use Rattle.once_core.specs.declared.event.Event.TheVariants as event
use Rattle.replay_world.proofs.GatewayEventLemmas.{called_stands, machine_at}
use Rattle.replay_world.proofs.QuietLemmas.{does_quietly, down_there, is_there_down, machines_stay, no_machine_down, plays, told_sent}
use Rattle.replay_world.proofs.RefusalLemmas.{read_at}
use Rattle.replay_world.proofs.replay.Replay.open.Goals as goal

pub returns-then-index-len : goal.returns-then-index-len
returns-then-index-len c = λ v number stands is none.
    no_machine_down v _ stands is none
    (omega (arith, c.if-index-len.true, c.len.ensures, c.from-index.ensures, c.args.self.now.gateways.ok.0))

pub returns : goal.returns
returns c = λ v number stands is none.
    let has = read_at _ c.from-index.ensures
    (omega (arith, c.if-index-len.false, c.len.ensures, c.args.self.now.gateways.ok.0)) c.index_mut.ensures.value in
    let here = machine_at v _ stands _ is has in
    let down = down_there v.world number here.has_gateway (is_there_down v.world number none).2 in
    on_ok_weaker {P = MachineStands v.setup (number - 1) (opened (rules_in v.setup) here.gateway) here.machine c.open.new.self}
    c.open.result
    (λ stood. does_quietly _
    (plays v _ _ _ here.has_gateway here.has_machine (event.Open number) (λ g. still (opened (rules_in v.setup) g)) refl
    none refl _
    (machines_stay v _ _ _ here.has_gateway here.has_machine))
    (told_sent v _ _ _ here.has_gateway here.has_machine (event.Open number) (λ g. still (opened (rules_in v.setup) g)) refl
    none refl refl) stands stood refl (cc c.from-index.ensures))
    (c.open.ensures.opens v.setup (number - 1) here.gateway here.machine (called_stands v _ here) down)
