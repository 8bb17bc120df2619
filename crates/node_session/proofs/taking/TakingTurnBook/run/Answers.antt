use Rattle.node_session.proofs.Names.{drops_of, fortune_of, prepared_of, readied, size_of, value_of}
use Rattle.node_session.proofs.TakenLemmas.{added_now, has_taken}
use Rattle.node_session.proofs.taking.TakingTurnBook.run.Goals as goal

pub returns-clause-owes : goal.returns-clause-owes
returns-clause-owes g c =
    let turn = c.args.self in let old = c.args.value.now in let new = c.take.new.self in
    (c.a_turn_owes.ensures.take old new c.take.result turn.from (prepared_of turn.request.now) (size_of old) turn.now turn.who
    c.take.ensures.stays c.take.ensures.cause c.take.ensures.taken).owes

pub returns-clause-does : goal.returns-clause-does
returns-clause-does g c =
    let turn = c.args.self in let old = c.args.value.now in let new = c.take.new.self in
    let octets = turn.request.now in
    let ready = readied (fortune_of old new) (value_of old) in (
      drops_of (fortune_of old new) (value_of old),
      added_now old new turn.from octets turn.now turn.who,
      (c.a_turn_owes.ensures.take old new c.take.result turn.from (prepared_of octets) (size_of old) turn.now turn.who
          c.take.ensures.stays c.take.ensures.cause c.take.ensures.taken).adds,
      has_taken old new turn.from octets turn.now turn.who c.take.ensures.cause
          (c.a_turn_owes.ensures.behind old new)
          (λ broken. c.a_turn_owes.ensures.failed ready turn.from (prepared_of octets) (size_of old) broken)
          c.take.result c.take.ensures.taken c.take.ensures.everywhere,
    )
