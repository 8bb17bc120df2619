use Rattle.std.proofs.Common.{refl}
use Rattle.replay_gateway.proofs.Names.{header_at, no_caller, open_time_of, size_of}
use Rattle.replay_gateway.proofs.CallLemmas.{book_stands}
use Rattle.replay_gateway.proofs.calls.ask.Goals as goal

pub returns-in-Commit : goal.returns-in-Commit
returns-in-Commit c = λ setup place g m up. rw c.in-Commit.is (c.commit.ensures setup place g m up)

pub returns-in-Mark : goal.returns-in-Mark
returns-in-Mark c = λ setup place g m up.
    rw c.in-Mark.is
    (book_stands _ _ g m g.book up
    (rw up.open_time at
    (rw up.size at
    (c.a_gateway_goes_as_armed.ensures.tick (refl, refl) refl (header_at setup place) g.book m.armed m.at_last
    c.args.book.now c.tick-marked.new.self c.tick-marked.result (open_time_of c.args.book.now) (size_of c.args.book.now)
    c.args.now no_caller up.up (c.tick-marked.ensures.ticked (refl, refl)) c.tick-marked.ensures.stays
    c.tick-marked.ensures.planned))) c.tick-marked.ensures.stays)

pub returns-in-Close : goal.returns-in-Close
returns-in-Close c = λ setup place g m up.
    rw c.in-Close.is
    (book_stands _ _ g m g.book up
    (c.a_gateway_goes_as_armed.ensures.close (refl, refl) refl (header_at setup place) g.book m.armed m.at_last
    c.args.book.now c.close-marked.new.self c.close-marked.result c.args.now no_caller up.up
    (c.close-marked.ensures.closed (refl, refl)) c.close-marked.ensures.stays c.close-marked.ensures.planned)
    c.close-marked.ensures.stays)
