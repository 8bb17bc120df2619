-- What contracts see of a session and of who writes the files: the pass that each has.
use Rattle.std.specs.Prelude.{ℕ, [], Option, None, Some}
use Rattle.turn_cell.specs.Cell.{IsPassOf, knowledge}
use Rattle.turn_cell.specs.Knowing.{first_of}
use Rattle.turn_cell.specs.declared.cell.Pass.{Pass}
use Rattle.turn_cell.specs.declared.cell.TurnCell.{TurnCell}
use Rattle.turn_cell.specs.declared.knowing.Knowledge.{Knowledge}
use Rattle.node_session.specs.declared.worker.Worker.{Worker}

-- what is known by a pass
abbrev pub known_by : Option Pass → Knowledge
known_by None = first_of []
known_by (Some pass) = knowledge pass

-- it is a pass of the cell
abbrev pub IsOf : {V : Type 0} → TurnCell V → Option Pass → Type 0
IsOf cell None = ⊥
IsOf cell (Some pass) = IsPassOf cell pass

abbrev pub pass_of : Worker → Option Pass
pass_of worker = worker.pass

-- its number, which the entries bear that it adds
abbrev pub session_of : Worker → ℕ
session_of worker = worker.session

-- what its pass knows
abbrev pub knowledge_of : Worker → Knowledge
knowledge_of worker = known_by worker.pass

abbrev pub IsWorkerOf : {V : Type 0} → TurnCell V → Worker → Type 0
IsWorkerOf cell worker = IsOf cell worker.pass
