use Rattle.std.proofs.Common.{None, Some}
use Rattle.turn_cell.proofs.cell.TurnCell.turn_at.Given as goal

abbrev pub ghosts-perform : goal.ghosts-perform
ghosts-perform g a = record { turn = Some a.turn; value = Some a.value; answer = None }
