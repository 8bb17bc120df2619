-- What the parts of a turn leave to one another.
use Rattle.std.specs.Prelude.{◌≡◌, ℕ, Bool, List, [], ◌∷◌, Option, Some}
use Rattle.gw_base.specs.Facts.{AreSound, Facts, WhereTold}
use Rattle.gw_base.specs.declared.history.HistoryEntry.{HistoryEntry}
use Rattle.turn_cell.specs.Knowing.{after_turn, first_of, standing}
use Rattle.gw_base.specs.Owes.{Adds, Owes}
use Rattle.turn_cell.specs.Rule.{seat}
use Rattle.turn_cell.specs.Steps.{Did, Seated, Takes}
use Rattle.turn_cell.specs.declared.knowing.Knowledge.{Knowledge}
use Rattle.turn_cell.specs.declared.knowing.Stage.TheVariants.{Holding, Waiting}

module _ {V : Type 0} (facts : V → Facts) (told : Bool) where
  -- the seat has taken a value that may come to a turn of its pass
  abbrev pub HasCome : ℕ → Facts → ℕ → Seated V → Type 0
  HasCome made start ticket m =
      Takes facts told made start ticket (seat (Waiting ticket) (first_of m.0.passes ∷ []), []) m

  -- the seat has this value, as the last turn left it
  abbrev pub IsLeft : ℕ → V → Seated V → Type 0
  IsLeft ticket left m =
      m ≡ (seat (Holding ticket (standing (facts left))) (first_of m.0.passes ∷ []), (0, Some left) ∷ [])

  module _ {T A : Type 0} (session : T → Option ℕ) (does : T → V → V → A → Bool → List HistoryEntry → Type 0)
      (turn : Option T) (value : Option V) (answer : Option A) where
    -- the pass keeps the turn that was named
    pub record IsSettled (ticket : ℕ) (found : Facts) (before : Knowledge) (left : V) (m : Seated V) : Type 0 where
      pub did : Did facts told session does turn value answer found left
      pub after : first_of m.0.passes ≡ after_turn before found (facts left) did.drops did.added
      pub is_left : IsLeft ticket left m

  -- the turn is taken, and the pass keeps it
  pub record HasTaken {A : Type 0} (session : Option ℕ) (does : V → V → A → Bool → List HistoryEntry → Type 0)
      (ticket : ℕ) (found : V) (before : Knowledge) (answer : A) (m : Seated V) : Type 0 where
    pub left : V
    pub drops : Bool
    pub added : List HistoryEntry
    pub sound : AreSound told (facts left)
    pub owes : Owes told (facts found) (facts left)
    pub adds : WhereTold told (Adds session (facts found) (facts left) drops added)
    pub does_so : does found left answer drops added
    pub after : first_of m.0.passes ≡ after_turn before (facts found) (facts left) drops added
    pub is_left : IsLeft ticket left m
