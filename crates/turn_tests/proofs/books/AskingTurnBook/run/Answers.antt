use Rattle.gateway_book.specs.Book.{fortune_of, value_of}
use Rattle.gateway_book.specs.Turning.{drops_of}
use Rattle.turn_tests.proofs.books.AskingTurnBook.run.Goals as goal

pub returns-clause-owes : goal.returns-clause-owes
returns-clause-owes g c =
    let turn = c.args.self in let old = c.args.value.now in let new = c.take.new.self in
    (c.a_turn_owes.ensures.take old new c.take.result _ _ _ turn.now turn.who c.take.ensures.stays c.take.ensures.cause c.take.ensures.taken).owes

pub returns-clause-does : goal.returns-clause-does
returns-clause-does g c =
    let turn = c.args.self in let old = c.args.value.now in let new = c.take.new.self in
    let taken = c.a_turn_owes.ensures.take old new c.take.result _ _ _ turn.now turn.who c.take.ensures.stays c.take.ensures.cause c.take.ensures.taken in
    (drops_of (fortune_of old new) (value_of old), _, taken.adds, c.take.ensures.everywhere.counts)
