use Rattle.std.proofs.Common.{refl, ◌-◌, arith}
use Rattle.replay_gateway.specs.Asking.{asked_move}
use Rattle.replay_world.proofs.GatewayEventLemmas.{asked_allowed, asked_machines, asked_place, asked_tells, asked_there, asked_turn, asked_waiting, at_running, called_stands, machine_at, no_machine, runs_there, sent_quietly}
use Rattle.replay_world.proofs.RefusalLemmas.{read_at}
use Rattle.replay_world.proofs.replay.Replay.at_gateway.Goals as goal

pub returns-then-index-len : goal.returns-then-index-len
returns-then-index-len c = λ v number stands is none.
    no_machine v _ stands _ is none
    (omega (arith, c.if-index-len.true, c.len.ensures, c.from-index.ensures, c.args.self.now.gateways.ok.0))

pub returns : goal.returns
returns c = λ v number stands is none.
    let has = read_at _ c.from-index.ensures
    (omega (arith, c.if-index-len.false, c.len.ensures, c.args.self.now.gateways.ok.0)) c.index_mut.ensures.value in
    let here = machine_at v _ stands _ is has in
    let move = asked_move v.setup v.world.now c.args.call in
    let at = at_running v _ _ move here (asked_place v number c.args.call) none (asked_allowed v _ _ none)
    (asked_turn v number c.args.call) in
    let goes = c.in_ok-sent.ensures v.setup (number - 1) here.gateway here.machine (called_stands v _ here)
    (runs_there v.world number here.has_gateway none) in
    sent_quietly v _ _ _ _ _ _ at (asked_machines v _ _) _ _ _ _ _ _ _
    (rw (← (asked_waiting v number c.args.call)) at stands) is (asked_there v number _ _ stands.now _ _ goes) refl
    (cc c.from-index.ensures) _ (asked_tells v _ _) c.send_moved.ensures.sent c.send_moved.ensures.on
