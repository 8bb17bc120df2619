-- What the counted calls of a shelf do, by what the shelf tells before and after them.
use Rattle.std.specs.Prelude.{◌≡◌, ◌⊎◌, ℕ, Bool, true, false, IsTrue, List, ◌++◌, Result, OnOk}
use Rattle.area_disk.specs.Disk.{HasCause, counted}
use Rattle.area_disk.specs.Plan.{Schedule, next_fate}
use Rattle.cdr_shelf.specs.Files.{SealedFile, Unsealed, sealed_as}
use Rattle.cdr_shelf.specs.Steps.{CallAsPlanned, HasStopCause, LeavesAfter, SealLeaves, StepsAt, left_unsealed}

-- what a shelf tells at a moment
pub record State : Type 0 where
  pub files : List SealedFile
  pub unsealed : ℕ → Unsealed
  pub calls : ℕ
  pub plan : Schedule
  pub faults : ℕ

-- of which a shelf that tells it has this
abbrev pub state_by : {A : Type 0} → (A → List SealedFile) → (A → ℕ → Unsealed) → (A → ℕ) → (A → Schedule) → (A → ℕ)
    → A → State
state_by files unsealed calls plan faults shelf = record {
  files = files shelf;
  unsealed = unsealed shelf;
  calls = calls shelf;
  plan = plan shelf;
  faults = faults shelf;
}

-- which parts of it are told: what it holds, its counted calls, and what is planned for those to come
pub record Told : Type 0 where
  pub files : Bool
  pub calls : Bool
  pub plan : Bool

abbrev pub told_by : Bool → Bool → Bool → Told
told_by files calls plan = record { files = files; calls = calls; plan = plan }

-- A counted call makes this step of the stream's unsealed file, and seals nothing. Where there was no memory for it,
-- it isn't counted, and nothing changed.
pub record Steps {T E : Type 0} (tells : Told) (stream : ℕ) (step : Unsealed → Unsealed) (starved : Bool)
    (old new : State) (result : Result T E) : Type 0 where
  pub files : new.files ≡ old.files
  pub made : IsTrue tells.files → OnOk result (StepsAt stream step old.unsealed new.unsealed)
  pub no_memory : starved ≡ true → (new.calls ≡ old.calls) × (new.plan ≡ old.plan) ×
      ((s : ℕ) → new.unsealed s ≡ old.unsealed s)
  pub calls : IsTrue tells.calls → starved ≡ false → new.calls ≡ counted 1 old.calls
  pub planned : IsTrue tells.plan → starved ≡ false → CallAsPlanned old.plan result new.plan
  pub leaves : IsTrue tells.files → IsTrue tells.plan → starved ≡ false →
      LeavesAfter (next_fate old.plan) stream step old.unsealed new.unsealed
  pub cause : HasStopCause starved old.faults new.faults result

-- A counted call seals the stream's unsealed file.
pub record Seals {T E : Type 0} (tells : Told) (stream : ℕ) (old new : State) (result : Result T E) : Type 0 where
  pub sealed : IsTrue tells.files → OnOk result (new.files ≡ old.files ++ sealed_as (old.unsealed stream))
  pub ended : IsTrue tells.files → OnOk result (StepsAt stream left_unsealed old.unsealed new.unsealed)
  pub any_moment : IsTrue tells.files →
      (new.files ≡ old.files) ⊎ (new.files ≡ old.files ++ sealed_as (old.unsealed stream))
  pub calls : IsTrue tells.calls → new.calls ≡ counted 1 old.calls
  pub planned : IsTrue tells.plan → CallAsPlanned old.plan result new.plan
  pub leaves : IsTrue tells.files → IsTrue tells.plan →
      SealLeaves (next_fate old.plan) stream old.unsealed old.files new.unsealed new.files
  pub cause : HasCause old.faults new.faults result
