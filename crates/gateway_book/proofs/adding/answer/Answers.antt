use Rattle.std.proofs.Common.{false, Some, ap, ◌∙◌}
use Rattle.gateway_book.proofs.Names.{case_value, Done, node_of, observed_by, room_in, room_told}
use Rattle.gateway_book.proofs.AddingLemmas.{answer_alike, said_with, said_without, silent_with, silent_without}
use Rattle.gateway_book.proofs.adding.answer.Goals as goal

pub returns-in-Some-clause-silent : goal.returns-in-Some-clause-silent
returns-in-Some-clause-silent g c = λ why e.
    silent_with c.args.trail.now c.answer_with_room.new.trail c.args.index.now c.answer_with_room.new.index c.args.moment c.args.who c.args.from (case_value c.args.case.now) why
    (c.answer_with_room.ensures.silent why (c.in-Some.is ∙ ap (λ (done : Done). Some done) e))

pub returns-in-Some-clause-said : goal.returns-in-Some-clause-said
returns-in-Some-clause-said g c = λ reply e.
    said_with c.args.trail.now c.answer_with_room.new.trail c.args.index.now c.answer_with_room.new.index c.args.moment c.args.who c.args.from (case_value c.args.case.now) reply
    (c.answer_with_room.ensures.said reply (c.in-Some.is ∙ ap (λ (done : Done). Some done) e))

pub returns-in-None-clause-silent : goal.returns-in-None-clause-silent
returns-in-None-clause-silent g c = λ why e.
    silent_without c.args.trail.now c.answer_with_room.new.trail c.args.index.now c.answer_with_room.new.index c.args.moment c.args.who c.args.from (case_value c.args.case.now) why
    (c.answer_with_room.ensures.no_room c.in-None.is) (c.answer_without_room.ensures.silent why e)

pub returns-in-None-clause-said : goal.returns-in-None-clause-said
returns-in-None-clause-said g c = λ reply e.
    said_without c.args.trail.now c.answer_with_room.new.trail c.args.index.now c.answer_with_room.new.index c.args.moment c.args.who c.args.from (case_value c.args.case.now) c.requires.prepared.0 reply
    (c.answer_with_room.ensures.no_room c.in-None.is) (c.answer_without_room.ensures.said reply e)

pub returns-in-Some-clause-told : goal.returns-in-Some-clause-told
returns-in-Some-clause-told g c = λ told.
    answer_alike (observed_by false c.args.index.now (node_of c.args.from)) c.args.from (case_value c.args.case.now) (room_in c.args.trail.now c.args.moment c.args.who) (room_told c.args.trail.now c.args.moment c.args.who)
    (λ a given. c.answer_with_room.ensures.told a given told)

pub returns-in-None-clause-told : goal.returns-in-None-clause-told
returns-in-None-clause-told g c = λ told.
    answer_alike (observed_by false c.args.index.now (node_of c.args.from)) c.args.from (case_value c.args.case.now) (room_in c.args.trail.now c.args.moment c.args.who) (room_told c.args.trail.now c.args.moment c.args.who)
    (λ a given. c.answer_with_room.ensures.told a given told)
