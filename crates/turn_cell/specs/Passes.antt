-- What contracts see of a pass that took a turn, and of the passes that a cell is ended with.
use Rattle.std.specs.Prelude.{◌≡◌, ℕ, Bool, List, [], ◌∷◌, ◌++◌, length, All, Option, Some, None, ⊤}
use Rattle.gw_base.specs.Facts.{AreSound, Facts, WhereTold}
use Rattle.gw_base.specs.declared.history.HistoryEntry.{HistoryEntry}
use Rattle.turn_cell.specs.Knowing.{IsLegal, after_turn, facts_of}
use Rattle.gw_base.specs.Owes.{Adds, Owes}
use Rattle.turn_cell.specs.Placed.{HasNumber, IsPlaced, Owns, Stands}
use Rattle.turn_cell.specs.declared.knowing.KeptTurn.{KeptTurn}
use Rattle.turn_cell.specs.declared.knowing.Knowledge.{Knowledge}

-- a session that a turn names is the number of the pass
abbrev pub IsOwnSession : Option ℕ → Knowledge → Type 0
IsOwnSession None k = ⊤
IsOwnSession (Some session) k = session ≡ k.number

-- A turn was taken: some value was found that could come to it, and another left, and the pass keeps it.
pub record Took {V A : Type 0} (told : Bool) (facts : V → Facts) (session : Option ℕ)
    (does : V → V → A → Bool → List HistoryEntry → Type 0) (before : Knowledge) (answer : A) (after : Knowledge)
    : Type 0 where
  pub found : V
  pub left : V
  pub drops : Bool
  pub added : List HistoryEntry
  pub legal : IsLegal told before (facts found)
  pub sound : AreSound told (facts found) × AreSound told (facts left)
  pub owes : Owes told (facts found) (facts left)
  pub adds : WhereTold told (Adds session (facts found) (facts left) drops added)
  pub does_so : does found left answer drops added
  pub kept : after ≡ after_turn before (facts found) (facts left) drops added

-- The pass keeps one turn more, which found the entries in their places.
pub record FoundInPlace (made : ℕ) (start : Facts) (before after : Knowledge) : Type 0 where
  pub turn : KeptTurn
  pub one_more : after.turns ≡ before.turns ++ turn ∷ []
  pub placed : IsPlaced made start (facts_of turn.found) before

-- Turns that a pass took one behind the other, one for each of some items, in order.
module _ {V I A : Type 0} (told : Bool) (facts : V → Facts) (made : ℕ) (start : Facts) (session : Option ℕ)
    (does : I → V → V → A → Bool → List HistoryEntry → Type 0) where
  -- a turn was taken for this item, and found the entries in their places
  abbrev pub TookFor : I → Knowledge → A → Knowledge → Type 0
  TookFor item before answer after =
      Took told facts session (does item) before answer after × WhereTold told (FoundInPlace made start before after)

  -- a turn was taken for each of these items, with these answers
  abbrev pub TookEach : List I → List A → Knowledge → Knowledge → Type 0
  TookEach [] [] before after = after ≡ before
  TookEach (item ∷ items) (answer ∷ answers) before after =
      (now : Knowledge) × TookFor item before answer now × TookEach items answers now after
  TookEach [] (answer ∷ answers) before after = ⊥
  TookEach (item ∷ items) [] before after = ⊥

  -- a turn was taken for each of these items, and its answer stands behind those that stood there
  abbrev pub TookMore : List I → List A → List A → Knowledge → Knowledge → Type 0
  TookMore items old new before after =
      (answers : List A) × (new ≡ old ++ answers) × TookEach items answers before after

-- these entries, which a value has past those that it began with, were added by these passes
pub record AreOwned (start now : Facts) (passes : List Knowledge) : Type 0 where
  pub stood : List HistoryEntry
  pub tail : List HistoryEntry
  pub stands : Stands (length passes) start now stood tail
  -- each bears the number of a pass; those of a pass are among those that it keeps, in order, each behind the same
  pub numbers : All (λ e. HasNumber e.caller.session passes) tail
  pub owns : All (Owns stood tail) passes

-- The value that is handed back, behind all turns of these passes.
pub record Ended (told : Bool) (start now : Facts) (passes : List Knowledge) : Type 0 where
  pub sound : AreSound told now
  pub size : now.size ≡ start.size
  pub name : now.name ≡ start.name
  -- it could come to a turn of each pass: its firm part begins with what the pass knows
  pub legal : All (λ k. IsLegal told k now) passes
  pub entries : WhereTold told (AreOwned start now passes)
