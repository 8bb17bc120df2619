use Rattle.std.proofs.Common.{Some}
use Rattle.turn_cell.proofs.cell.TurnCell.perform.Given as goal

abbrev pub ghosts-settle : goal.ghosts-settle
ghosts-settle g a = record { turn = g.J.Named.turn; value = g.J.Named.value; answer = Some a.answer.now }
