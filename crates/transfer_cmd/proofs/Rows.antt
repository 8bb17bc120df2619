-- How the row for an ask at a state is found.
use Rattle.std.proofs.Common.{◌≡◌, ℕ, List, Option, Some, None, refl, ap, ◌∙◌}
use Rattle.std.specs.List.{find}
use Rattle.case_table.specs.Rows.{has_key}
use Rattle.case_table.specs.declared.Row.{Row}
use Rattle.gw_base.specs.declared.key_state.KeyState.{KeyState}
use Rattle.gw_base.specs.declared.key_state.KeyState.TheVariants.{Fresh, Filed, Sealed, Held, Released, Cancelled}
use Rattle.transfer_cmd.specs.declared.decision.Ask.{Ask}
use Rattle.transfer_cmd.specs.declared.decision.Ask.TheVariants.{Send, Possible, Empty}
use Rattle.transfer_cmd.specs.Rows.{mark_of, place_of_state, row_for, rows_for, state_marked}
use Rattle.transfer_cmd.specs.Table.{state_given}

-- each row is found by its key
row_by_key : (ask : Ask) (state : KeyState) → find (has_key (place_of_state state)) (rows_for ask) ≡ Some (row_for ask state)
row_by_key ask Fresh = refl
row_by_key ask _ = refl

-- what is found among the rows for an ask by a key that is equal to a state's place is the row for the state
found_is : (ask : Ask) (state : KeyState) (key : ℕ) (table : List Row) (found : Option Row) →
    table ≡ rows_for ask → found ≡ find (has_key key) table → key ≡ place_of_state state → found ≡ Some (row_for ask state)
found_is ask state key table found table_is is key_is =
    is ∙ ap (find (has_key key)) table_is ∙ ap (λ (k : ℕ). find (has_key k) (rows_for ask)) key_is ∙ row_by_key ask state

pub row_found : (ask : Ask) (state : KeyState) (key : ℕ) (table : List Row) (row : Row) →
    table ≡ rows_for ask → Some row ≡ find (has_key key) table → key ≡ place_of_state state → row ≡ row_for ask state
row_found ask state key table row table_is is key_is = let same = found_is ask state key table (Some row) table_is is key_is in cc

-- there is such a row
pub row_there : (ask : Ask) (state : KeyState) (key : ℕ) (table : List Row) →
    table ≡ rows_for ask → None ≡ find (has_key key) table → key ≡ place_of_state state → ⊥
row_there ask state key table table_is is key_is = let never = found_is ask state key table None table_is is key_is in cc

-- a row's mark stands for the state that is given
pub marked : (ask : Ask) (state : KeyState) → state_marked (mark_of (state_given ask state)) ≡ state_given ask state
marked Send Fresh = refl
marked Possible Fresh = refl
marked Empty Fresh = refl
marked Send Filed = refl
marked Send Sealed = refl
marked Send Held = refl
marked Send Released = refl
marked Send Cancelled = refl
marked Possible Filed = refl
marked Possible Sealed = refl
marked Possible Held = refl
marked Possible Released = refl
marked Possible Cancelled = refl
marked Empty Filed = refl
marked Empty Sealed = refl
marked Empty Held = refl
marked Empty Released = refl
marked Empty Cancelled = refl
