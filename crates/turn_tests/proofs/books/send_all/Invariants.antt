use Rattle.std.specs.Prelude.{◌≡◌}
use Rattle.turn_cell.specs.Cell.{IsPassOf, knowledge}
use Rattle.turn_tests.proofs.books.send_all.Given as goal

abbrev pub invariant-loop-serial : goal.invariant-loop-serial
invariant-loop-serial g l = IsPassOf l.cell l.pass × ((knowledge l.pass).number ≡ l.session)
