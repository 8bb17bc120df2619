-- The rule of the cell, over its words, its slot and what its seats know. The words are how many tickets were drawn,
-- the ticket whose turn it is, and the length that never falls. The slot has the value, or nothing while a pass has it.
use Rattle.std.specs.Prelude.{◌≡◌, ◌⊎◌, ℕ, ◌+◌, ◌<◌, ◌≤◌, Bool, List, [], ◌∷◌, length, All, Option, Some, ⊤}
use mathlib.Core.Option.{none, some}
use mathlib.Core.Option as maybe
use lib.ListN.{get_elem?}
use Rattle.atomic_table.specs.Table.{State}
use Rattle.gw_base.specs.Facts.{AreSound, Facts, WhereTold}
use Rattle.gw_base.specs.declared.history.HistoryEntry.{HistoryEntry}
use Rattle.turn_cell.specs.Knowing.{IsLegal, facts_of, first_of}
use Rattle.turn_cell.specs.Placed.{HasNumber, Owns, Stands}
use Rattle.turn_cell.specs.declared.knowing.Knowledge.{Knowledge}
use Rattle.turn_cell.specs.declared.knowing.SeatView.{SeatView}
use Rattle.turn_cell.specs.declared.knowing.Stage.{Stage}
use Rattle.turn_cell.specs.declared.knowing.Stage.TheVariants.{Resting, Waiting, Holding}

abbrev pub seat : Stage → List Knowledge → SeatView
seat stage passes = record { stage = stage; passes = passes }

-- what the pass of a single seat knows
abbrev pub known_in : List SeatView → Knowledge
known_in [] = first_of []
known_in (d ∷ ds) = first_of d.passes

-- how many passes all seats have
abbrev pub passes_in : List SeatView → ℕ
passes_in [] = 0
passes_in (d ∷ ds) = length d.passes + passes_in ds

-- What has happened to a cell: how many tickets were drawn, and whose turn it is; which seat has each ticket and each
-- pass; the facts of the value now; and the entries of its list, those that it began with and those behind.
pub record Course : Type 0 where
  pub drawn : ℕ
  pub served : ℕ
  pub holder : ℕ → ℕ
  pub keeper : ℕ → ℕ
  pub now : Facts
  pub stood : List HistoryEntry
  pub tail : List HistoryEntry

-- a seat has a ticket whose turn isn't over
pub record HasTicket (c : Course) (j t : ℕ) : Type 0 where
  pub comes : c.served ≤ t
  pub was_drawn : t < c.drawn
  pub own : c.holder t ≡ j

-- a seat has the value, which is so now
pub record HasValue (c : Course) (j t : ℕ) (f : Facts) : Type 0 where
  pub ticket : HasTicket c j t
  pub turn : t ≡ c.served
  pub now : f ≡ c.now

abbrev pub IsAtStage : Course → ℕ → Stage → Type 0
IsAtStage c j Resting = ⊤
IsAtStage c j (Waiting t) = HasTicket c j t
IsAtStage c j (Holding t f) = HasValue c j t (facts_of f)

-- the ticket of a pass that waits or has the value
abbrev pub ticket_at : Stage → ℕ
ticket_at Resting = 0
ticket_at (Waiting ticket) = ticket
ticket_at (Holding ticket found) = ticket

abbrev pub nothing : Facts
nothing = record { size = 0; name = []; faults = 0; cuts = 0; entries = 0; length = 0; list = []; firm = []; torn = [] }

-- what the value was that a pass has, when it came, or as the last turn left it
abbrev pub found_at : Stage → Facts
found_at Resting = nothing
found_at (Waiting ticket) = nothing
found_at (Holding ticket found) = facts_of found

-- a seat at this stage has the value
abbrev pub HasIt : Stage → Type 0
HasIt Resting = ⊥
HasIt (Waiting t) = ⊥
HasIt (Holding t f) = ⊤

-- some seat has the value, and it is that of a pass
abbrev pub IsOut : List SeatView → Type 0
IsOut views = (j : ℕ) × (d : SeatView) × (get_elem? views j ≡ some d) × HasIt d.stage × (0 < length d.passes)

-- no seat has the value
abbrev pub IsIn : List SeatView → Type 0
IsIn views = (j : ℕ) (d : SeatView) → get_elem? views j ≡ some d → HasIt d.stage → ⊥

module _ {V : Type 0} (facts : V → Facts) where
  -- the value is at home, and no seat has it
  abbrev pub IsHome : Facts → List (maybe.Option (Option V)) → List SeatView → Type 0
  IsHome now homes views = (v : V) × (homes ≡ some (Some v) ∷ []) × (facts v ≡ now) × IsIn views

  -- the value isn't at home, and some seat has it
  abbrev pub IsAway : List (maybe.Option (Option V)) → List SeatView → Type 0
  IsAway homes views = (homes ≡ none ∷ []) × IsOut views

  abbrev pub IsSomewhere : Facts → List (maybe.Option (Option V)) → List SeatView → Type 0
  IsSomewhere now homes views = IsHome now homes views ⊎ IsAway homes views

module _ (told : Bool) (made : ℕ) where
  -- a pass that a seat has, and what it knows
  pub record IsKept (c : Course) (j : ℕ) (k : Knowledge) : Type 0 where
    pub keeper : c.keeper k.number ≡ j
    pub number : k.number < made
    pub legal : IsLegal told k c.now
    pub owns : WhereTold told (Owns c.stood c.tail k)

  pub record Fits (c : Course) (j : ℕ) (d : SeatView) : Type 0 where
    pub stage : IsAtStage c j d.stage
    pub passes : All (IsKept c j) d.passes

  module _ {V : Type 0} (facts : V → Facts) (start : Facts) where
    pub record Runs (c : Course) (s : State (Option V) SeatView) : Type 0 where
      pub words : s.words ≡ c.drawn ∷ c.served ∷ c.now.length ∷ []
      pub order : c.served ≤ c.drawn
      pub sound : AreSound told c.now
      pub stands : WhereTold told (Stands made start c.now c.stood c.tail)
      pub size : c.now.size ≡ start.size
      pub name : c.now.name ≡ start.name
      pub slot : IsSomewhere facts c.now s.homes s.views
      pub seats : (j : ℕ) (d : SeatView) → get_elem? s.views j ≡ some d → Fits c j d
      pub count : passes_in s.views ≡ made
      pub each : (n : ℕ) → n < made → (d : SeatView) × (get_elem? s.views (c.keeper n) ≡ some d) × HasNumber n d.passes

    -- the rule of a cell that was made with a value of some facts, and with so many passes
    abbrev pub Rule : State (Option V) SeatView → Type 0
    Rule s = (c : Course) × Runs c s
