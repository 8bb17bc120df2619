-- The table of answers as rows, six for each ask: under the place of the state the cause, and the place of the state that an
-- entry gives, which is that of Fresh where there is no entry.
use Rattle.std.specs.Prelude.{ℕ, ◌==◌, List, [], ◌∷◌, Option, Some, None, if◌then◌else◌}
use Rattle.case_table.specs.declared.Row.{Row}
use Rattle.gw_base.specs.declared.key_state.KeyState.{KeyState}
use Rattle.gw_base.specs.declared.key_state.KeyState.TheVariants.{Fresh, Filed, Sealed, Held, Released, Cancelled}
use Rattle.transfer_cmd.specs.declared.decision.Ask.{Ask}
use Rattle.transfer_cmd.specs.Table.{answer_cause, state_given}

-- the place of a state among the states
abbrev pub place_of_state : KeyState → ℕ
place_of_state Fresh = 0
place_of_state Filed = 1
place_of_state Sealed = 2
place_of_state Held = 3
place_of_state Released = 4
place_of_state Cancelled = 5

-- the state that a mark stands for
abbrev pub state_marked : ℕ → Option KeyState
state_marked mark =
    if mark == 1 then Some Filed
    else if mark == 2 then Some Sealed
    else if mark == 3 then Some Held
    else None

-- the mark of a row
abbrev pub mark_of : Option KeyState → ℕ
mark_of None = place_of_state Fresh
mark_of (Some state) = place_of_state state

-- the row for an ask at a state
abbrev pub row_for : Ask → KeyState → Row
row_for ask state = record { key = place_of_state state; value = answer_cause ask state; mark = mark_of (state_given ask state) }

-- the rows for an ask
abbrev pub rows_for : Ask → List Row
rows_for ask =
    row_for ask Fresh ∷ row_for ask Filed ∷ row_for ask Sealed ∷ row_for ask Held ∷ row_for ask Released ∷ row_for ask Cancelled ∷ []
