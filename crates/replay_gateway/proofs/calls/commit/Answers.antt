use Rattle.std.proofs.Common.{refl}
use Rattle.replay_gateway.specs.Standing.{header_at}
use Rattle.replay_gateway.proofs.CallLemmas.{book_stands}
use Rattle.replay_gateway.proofs.calls.commit.Goals as goal

pub returns : goal.returns
returns c = λ setup place g m up.
    book_stands _ _ g m g.book up
    (c.a_gateway_goes_as_armed.ensures.commit (refl, refl) refl (header_at setup place) g.book m.armed m.at_last
    c.args.book.now c.commit-answer.new.self c.commit-answer.result up.up (c.commit-answer.ensures.left (refl, refl))
    c.commit-answer.ensures.stays c.commit-answer.ensures.planned) c.commit-answer.ensures.stays
