use Rattle.turn_cell.specs.Cell.{IsPassOf}
use Rattle.turn_tests.proofs.threads.raise_many.Given as goal

abbrev pub invariant-loop : goal.invariant-loop
invariant-loop g l = IsPassOf l.cell l.pass
