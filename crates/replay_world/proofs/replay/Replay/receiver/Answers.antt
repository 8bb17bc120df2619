use Rattle.std.proofs.Common.{◌≡◌, refl, ◌-◌, length, arith}
use Rattle.std.proofs.lemmas.Option.{slice_get_past}
use Rattle.replay_world.proofs.DeliverLemmas.{is_to, no_message, is_receiver}
use Rattle.replay_world.proofs.RefusalLemmas.{read_in}
use Rattle.replay_world.proofs.replay.Replay.receiver.Goals as goal

pub returns-in-Some : goal.returns-in-Some
returns-in-Some c = λ v stands none.
    let has = read_in c.deref.ensures.value c.index_of.ensures c.in-Some.ensures.lookup.3.0
    c.in-Some.ensures.lookup.1 in
    rw c.receiver_of.ensures (is_receiver v c.in-Some.message.now (is_to v _ _ stands none has c.in-Some.message.now.to_gateway refl))

pub returns-in-None : goal.returns-in-None
returns-in-None c = λ v stands none.
    let count : length c.deref.result.now ≡ length c.args.self.now.messages.items = cc c.deref.ensures.value in
    no_message v _ _ stands none
    (slice_get_past c.args.self.now.messages.items (c.args.number - 1)
    (omega (arith, c.in-None.ensures.lookup.3, c.index_of.ensures)))
