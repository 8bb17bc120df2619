use Rattle.std.proofs.Common.{refl, ◌-◌, arith}
use Rattle.replay_world.proofs.Names.{cut, disarmed, still}
use Rattle.once_core.specs.declared.event.Event.TheVariants as event
use Rattle.replay_world.proofs.GatewayEventLemmas.{called_stands, machine_at, no_machine, runs_there}
use Rattle.replay_world.proofs.QuietLemmas.{changed, does_quietly, plays, told_sent}
use Rattle.replay_world.proofs.RefusalLemmas.{read_at}
use Rattle.replay_world.proofs.replay.Replay.stop.Goals as goal

pub returns-then-index-len : goal.returns-then-index-len
returns-then-index-len c = λ v number stands is none.
    no_machine v _ stands _ is none
    (omega (arith, c.if-index-len.true, c.len.ensures, c.from-index.ensures, c.args.self.now.gateways.ok.0))

pub returns : goal.returns
returns c = λ v number stands is none.
    let has = read_at _ c.from-index.ensures
    (omega (arith, c.if-index-len.false, c.len.ensures, c.args.self.now.gateways.ok.0)) c.index_mut.ensures.value in
    let here = machine_at v _ stands _ is has in
    let stood = c.stop.ensures.stops v.setup (number - 1) here.gateway here.machine (called_stands v _ here)
    (runs_there v.world number here.has_gateway none) in
    does_quietly _
    (plays v _ _ _ here.has_gateway here.has_machine (event.Cut number 0) (λ g. still (cut 0 g)) refl none refl _
    (changed v _ _ _ here.has_gateway here.has_machine disarmed))
    (told_sent v _ _ _ here.has_gateway here.has_machine (event.Cut number 0) (λ g. still (cut 0 g)) refl none refl
    refl) stands stood refl (cc c.from-index.ensures)
