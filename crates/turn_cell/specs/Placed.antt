-- Which pass added which entry, and behind what.
use Rattle.std.specs.Prelude.{◌≡◌, ◌⊎◌, ℕ, ◌<◌, ◌==◌, List, [], ◌∷◌, ◌++◌, All, if◌then◌else◌, ⊤}
use Rattle.gw_base.specs.Facts.{Facts, joined}
use Rattle.gw_base.specs.declared.history.HistoryEntry.{HistoryEntry}
use Rattle.turn_cell.specs.Knowing.{facts_of}
use Rattle.gw_base.specs.Owes.{Begins, base}
use Rattle.turn_cell.specs.declared.knowing.KeptTurn.{KeptTurn}
use Rattle.turn_cell.specs.declared.knowing.Knowledge.{Knowledge}

-- each of these entries, with what stands in front of it
abbrev pub placed : List HistoryEntry → List HistoryEntry → List (HistoryEntry × List HistoryEntry)
placed before [] = []
placed before (e ∷ entries) = (e, before) ∷ placed (before ++ e ∷ []) entries

-- those of one session
abbrev pub by_session : ℕ → List (HistoryEntry × List HistoryEntry) → List (HistoryEntry × List HistoryEntry)
by_session session [] = []
by_session session (p ∷ ps) = if p.0.caller.session == session then p ∷ by_session session ps else by_session session ps

-- what these turns added, each entry with what it was put behind
abbrev pub added_by : List KeptTurn → List (HistoryEntry × List HistoryEntry)
added_by [] = []
added_by (t ∷ turns) = placed (base t.drops (facts_of t.found)) t.added ++ added_by turns

-- the first list is what is left of the second without some of its elements
abbrev pub IsSublist : {A : Type 0} → List A → List A → Type 0
IsSublist xs [] = xs ≡ []
IsSublist [] (y ∷ ys) = ⊤
IsSublist (x ∷ xs) (y ∷ ys) = ((x ≡ y) × IsSublist xs ys) ⊎ IsSublist (x ∷ xs) ys

-- The list and the torn entries of a value, joined: those that still stand of the value that the cell was made with,
-- and behind them these, which were added in turns of the passes numbered below `made`.
pub record Stands (made : ℕ) (start now : Facts) (stood tail : List HistoryEntry) : Type 0 where
  pub whole : joined now ≡ stood ++ tail
  pub stood_is : Begins stood (joined start)
  pub firm : Begins start.firm stood
  pub begins : Begins start.firm now.firm
  pub made_by : All (λ e. e.caller.session < made) tail

-- one of these passes has this number
abbrev pub HasNumber : ℕ → List Knowledge → Type 0
HasNumber n [] = ⊥
HasNumber n (k ∷ ks) = (k.number ≡ n) ⊎ HasNumber n ks

-- of these, those of a pass are among the entries that it keeps, in order, each behind what it was put behind
abbrev pub Owns : List HistoryEntry → List HistoryEntry → Knowledge → Type 0
Owns stood tail k = IsSublist (by_session k.number (placed stood tail)) (added_by k.turns)

-- A value of a cell, and a pass that was made with it: what stands behind the entries at first was added by passes of
-- the cell, and what this one added of it stands where it put it.
pub record IsPlaced (made : ℕ) (start now : Facts) (k : Knowledge) : Type 0 where
  pub number : k.number < made
  pub stood : List HistoryEntry
  pub tail : List HistoryEntry
  pub stands : Stands made start now stood tail
  pub owns : Owns stood tail k
