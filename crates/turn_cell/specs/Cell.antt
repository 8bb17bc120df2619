-- What contracts see of a cell and its passes.
use Rattle.std.specs.Prelude.{◌≡◌, ℕ, List, [], ◌∷◌, map, All, Option}
use Rattle.atomic_table.specs.Seated.{TableId}
use Rattle.atomic_table.specs.declared.shared.Seat.{Seat}
use Rattle.gw_base.specs.Facts.{Facts}
use Rattle.turn_cell.specs.Knowing.{first_of, newcomers}
use Rattle.turn_cell.specs.Rule.{known_in, seat}
use Rattle.turn_cell.specs.declared.cell.Pass.{Pass}
use Rattle.turn_cell.specs.declared.cell.TurnCell.{TurnCell}
use Rattle.turn_cell.specs.declared.knowing.Knowledge.{Knowledge}
use Rattle.turn_cell.specs.declared.knowing.SeatView.{SeatView}
use Rattle.turn_cell.specs.declared.knowing.Stage.TheVariants.{Resting}

-- what a pass knows
abbrev pub knowledge : Pass → Knowledge
knowledge pass = known_in pass.badge.views

-- what these passes know
abbrev pub known_by : List Pass → List Knowledge
known_by passes = map knowledge passes

-- a pass of the cell whose table this is
abbrev pub IsPassIn : TableId → Pass → Type 0
IsPassIn table pass = pass.badge.table_id ≡ table

abbrev pub AreIn : TableId → List Pass → Type 0
AreIn table passes = All (IsPassIn table) passes

module _ {V : Type 0} where
  -- the pass that has this seat takes no turn
  abbrev pub IsResting : Seat (Option V) SeatView → Knowledge → Type 0
  IsResting place k = place.me ≡ (seat Resting (k ∷ []), [])

  -- the seat of passes that take no turns
  abbrev pub AreResting : Seat (Option V) SeatView → List Knowledge → Type 0
  AreResting place ks = place.me ≡ (seat Resting ks, [])

  -- what the first pass of a seat knows
  abbrev pub known_at : Seat (Option V) SeatView → Knowledge
  known_at place = first_of place.me.0.passes

  -- how many passes the cell has made
  abbrev pub made_by : TurnCell V → ℕ
  made_by cell = cell.made

  -- the value that the cell was made with
  abbrev pub begun : TurnCell V → V
  begun cell = cell.table.shared.key.value.value

  -- the pass is one of the cell
  abbrev pub IsPassOf : TurnCell V → Pass → Type 0
  IsPassOf cell pass = IsPassIn cell.table.shared.table_id pass

  -- the passes are those of the cell
  abbrev pub ArePassesOf : TurnCell V → List Pass → Type 0
  ArePassesOf cell passes = AreIn cell.table.shared.table_id passes

-- so many passes of this table, numbered in their order, which know what newcomers know
abbrev pub AreNew : TableId → Facts → ℕ → List Pass → Type 0
AreNew table start n passes = AreIn table passes × (known_by passes ≡ newcomers start n)
