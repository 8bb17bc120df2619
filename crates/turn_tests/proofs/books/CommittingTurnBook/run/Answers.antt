use Rattle.std.proofs.Common.{[], None}
use Rattle.gateway_book.specs.Book.{fortune_of, value_of}
use Rattle.gateway_book.specs.Turning.{drops_of}
use Rattle.turn_tests.proofs.books.CommittingTurnBook.run.Goals as goal

pub returns-clause-owes : goal.returns-clause-owes
returns-clause-owes g c =
    let old = c.args.value.now in let new = c.commit-committed.new.self in
    (c.a_turn_owes.ensures.commit old new c.commit-committed.result None c.commit-committed.ensures.stays
    c.commit-committed.ensures.cause c.commit-committed.ensures.left).owes

pub returns-clause-does : goal.returns-clause-does
returns-clause-does g c =
    let old = c.args.value.now in let new = c.commit-committed.new.self in
    let turn = c.a_turn_owes.ensures.commit old new c.commit-committed.result None c.commit-committed.ensures.stays
    c.commit-committed.ensures.cause c.commit-committed.ensures.left in
    (drops_of (fortune_of old new) (value_of old), [], turn.adds, c.settled.ensures.counted)
