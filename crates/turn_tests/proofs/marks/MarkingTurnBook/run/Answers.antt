use Rattle.std.proofs.Common.{sym, ◌∙◌}
use Rattle.std.proofs.lemmas.Bool.{true≢false}
use Rattle.gateway_book.specs.Book.{fortune_of, value_of}
use Rattle.gateway_book.specs.Turning.{drops_of}
use Rattle.turn_tests.proofs.marks.MarkingTurnBook.run.Goals as goal

pub returns-then-self-clause-owes : goal.returns-then-self-clause-owes
returns-then-self-clause-owes g c =
    let turn = c.args.self in let old = c.args.value.now in let new = c.close.new.self in
    (c.a_turn_owes.ensures.close old new c.close.result turn.now turn.who c.close.ensures.stays c.close.ensures.cause c.close.ensures.closed).owes

pub returns-then-self-clause-does : goal.returns-then-self-clause-does
returns-then-self-clause-does g c =
    let turn = c.args.self in let old = c.args.value.now in let new = c.close.new.self in
    let marked = c.a_turn_owes.ensures.close old new c.close.result turn.now turn.who c.close.ensures.stays c.close.ensures.cause c.close.ensures.closed in
    (drops_of (fortune_of old new) (value_of old), _, marked.adds, (c.close.ensures.everywhere.0, λ closes. c.close.ensures.everywhere.1))

pub returns-else-self-clause-owes : goal.returns-else-self-clause-owes
returns-else-self-clause-owes g c =
    let turn = c.args.self in let old = c.args.value.now in let new = c.tick.new.self in
    (c.a_turn_owes.ensures.tick old new c.tick.result _ _ turn.now turn.who c.tick.ensures.stays c.tick.ensures.cause c.tick.ensures.ticked).owes

pub returns-else-self-clause-does : goal.returns-else-self-clause-does
returns-else-self-clause-does g c =
    let turn = c.args.self in let old = c.args.value.now in let new = c.tick.new.self in
    let marked = c.a_turn_owes.ensures.tick old new c.tick.result _ _ turn.now turn.who c.tick.ensures.stays c.tick.ensures.cause c.tick.ensures.ticked in
    (drops_of (fortune_of old new) (value_of old), _, marked.adds, (c.tick.ensures.everywhere, λ closes. absurd (true≢false (sym closes ∙ c.if-self.false))))
