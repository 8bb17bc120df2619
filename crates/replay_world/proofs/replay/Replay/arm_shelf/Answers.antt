use Rattle.std.proofs.Common.{refl, ◌-◌, arith}
use Rattle.replay_world.proofs.GatewayEventLemmas.{called_stands, machine_at, no_machine, runs_there}
use Rattle.replay_world.proofs.QuietLemmas.{arms_shelf, does_quietly, told_nothing}
use Rattle.replay_world.proofs.RefusalLemmas.{read_at}
use Rattle.replay_world.proofs.replay.Replay.arm_shelf.Goals as goal

pub returns-then-index-len : goal.returns-then-index-len
returns-then-index-len c = λ v number armed as_armed stands is none.
    no_machine v _ stands _ is none
    (omega (arith, c.if-index-len.true, c.len.ensures, c.from-index.ensures, c.args.self.now.gateways.ok.0))

pub returns : goal.returns
returns c = λ v number armed as_armed stands is none.
    let has = read_at _ c.from-index.ensures
    (omega (arith, c.if-index-len.false, c.len.ensures, c.args.self.now.gateways.ok.0)) c.index_mut.ensures.value in
    let here = machine_at v _ stands _ is has in
    let stood = c.arm_shelf.ensures v.setup (number - 1) here.gateway here.machine armed as_armed
    (runs_there v.world number here.has_gateway none) (called_stands v _ here) in
    let sets = arms_shelf v _ _ _ here.has_gateway here.has_machine armed in
    does_quietly _ sets (told_nothing sets refl) stands stood refl (cc c.from-index.ensures)
