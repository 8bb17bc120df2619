use Rattle.turn_cell.proofs.cell.TurnCell.with_each.Given as goal
use Rattle.turn_cell.specs.Cell.{begun, made_by}

abbrev pub ghosts-wait : goal.ghosts-wait
ghosts-wait g a = record { made = made_by a.self.now; start = g.V.Counted.facts (begun a.self.now) }
