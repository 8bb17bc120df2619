use Rattle.std.proofs.Common.{refl, ◌-◌, Result, Ok, Err, IfOk, OnOk, arith}
use Rattle.std.proofs.lemmas.Result.{IfOk-weaker}
use Rattle.replay_world.proofs.GatewayEventLemmas.{called_stands, machine_at, no_machine, runs_there}
use Rattle.replay_world.proofs.QuietLemmas.{does_quietly, told_nothing, writes, written_behind}
use Rattle.replay_world.proofs.RefusalLemmas.{read_at}
use Rattle.replay_world.proofs.replay.Replay.write.Goals as goal

-- what follows from what was answered
ok_on : {T E : Type 0} {P : T → Type 0} {Q : Type 0} (result : Result T E) → ((x : T) → P x → Q) → IfOk result P →
    OnOk result Q
ok_on (Ok x) implies holds = implies x holds
ok_on (Err e) implies holds = tt

pub returns-then-index-len-clause-writes : goal.returns-then-index-len-clause-writes
returns-then-index-len-clause-writes c = λ v number stands is none.
    no_machine v _ stands _ is none
    (omega (arith, c.if-index-len.true, c.len.ensures, c.from-index.ensures, c.args.self.now.gateways.ok.0))

pub returns-then-index-len-clause-came : goal.returns-then-index-len-clause-came
returns-then-index-len-clause-came c = λ v number stands is none.
    no_machine v _ stands _ is none
    (omega (arith, c.if-index-len.true, c.len.ensures, c.from-index.ensures, c.args.self.now.gateways.ok.0))

pub returns-clause-writes : goal.returns-clause-writes
returns-clause-writes c = λ v number stands is none.
    let has = read_at _ c.from-index.ensures
    (omega (arith, c.if-index-len.false, c.len.ensures, c.args.self.now.gateways.ok.0)) c.index_mut.ensures.value in
    let here = machine_at v _ stands _ is has in
    let sets = writes v _ _ _ here.has_gateway here.has_machine in
    ok_on c.write.result (λ wrote written.
    does_quietly _ sets (told_nothing sets refl) stands written.stands refl (cc c.from-index.ensures))
    (c.write.ensures v.setup (number - 1) here.gateway here.machine (called_stands v _ here)
    (runs_there v.world number here.has_gateway none))

pub returns-clause-came : goal.returns-clause-came
returns-clause-came c = λ v number stands is none.
    let has = read_at _ c.from-index.ensures
    (omega (arith, c.if-index-len.false, c.len.ensures, c.args.self.now.gateways.ok.0)) c.index_mut.ensures.value in
    let here = machine_at v _ stands _ is has in
    IfOk-weaker c.write.result _ _
    (λ wrote written. written_behind v _ _ _ here.has_gateway here.has_machine number refl written.came)
    (c.write.ensures v.setup (number - 1) here.gateway here.machine (called_stands v _ here)
    (runs_there v.world number here.has_gateway none))
