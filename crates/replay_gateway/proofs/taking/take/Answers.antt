use Rattle.std.proofs.Common.{refl}
use Rattle.replay_gateway.proofs.Names.{header_at, no_caller, prepared_of, size_of}
use Rattle.replay_gateway.proofs.CallLemmas.{book_stands}
use Rattle.replay_gateway.proofs.taking.take.Goals as goal

pub returns : goal.returns
returns c = λ setup place g m up.
    let has = rw up.size at
    (c.a_gateway_goes_as_armed.ensures.take (refl, refl) refl (header_at setup place) g.book m.armed m.at_last
    c.args.book.now c.take.new.self c.take.result c.args.from (prepared_of c.args.request.now) (size_of c.args.book.now)
    c.args.now no_caller up.up (c.take.ensures.taken (refl, refl)) c.take.ensures.stays c.take.ensures.planned) in
    (book_stands _ _ g m g.book up has c.take.ensures.stays, has.answer)
