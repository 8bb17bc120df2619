-- What the calls of a shelf do to the unsealed files, by stream, and what a plan makes of them.
use Rattle.std.specs.Prelude.{◌≡◌, ◌≢◌, ℕ, ◌≤◌, Bool, true, false, if◌then◌else◌, List, [], ◌++◌, length, replicate, None, Some, Result, Ok, Err, OnOk, OnErr, is_err}
use Rattle.area_disk.specs.Disk.{overwritten, Rose}
use Rattle.area_disk.specs.Plan.{Schedule, next_fate, next_read_fails, after_call, after_read, is_failure, rot}
use Rattle.area_disk.specs.declared.plan.Fate.{Fate}
use Rattle.area_disk.specs.declared.plan.Fate.TheVariants.{Runs, Fails, Stops}
use Rattle.area_disk.specs.declared.plan.Outcome3.{Outcome3}
use Rattle.area_disk.specs.declared.plan.Outcome3.TheVariants.{Old, New, Rot}
use Rattle.cdr_shelf.specs.declared.file_name.FileName.{FileName}
use Rattle.cdr_shelf.specs.declared.shelf.ShelfStop.{ShelfStop}
use Rattle.cdr_shelf.specs.declared.shelf.ShelfStop.TheVariants.{Failed, NoMemory}
use Rattle.cdr_shelf.specs.Files.{SealedFile, Unsealed, UnsealedFile, sealed_as}

-- the stream has a file that takes a write from this octet on
abbrev pub TakesWrite : ℕ → Unsealed → Type 0
TakesWrite at None = ⊥
TakesWrite at (Some f) = at ≤ length f.octets

-- a file with this name, empty
abbrev pub begun : FileName → Unsealed → Unsealed
begun name before = Some (record { name = name; octets = []; is_synced = false })

-- the file after a write of these octets from this octet on
abbrev pub written : ℕ → List ℕ → Unsealed → Unsealed
written at from None = None
written at from (Some f) = Some (record { name = f.name; octets = overwritten f.octets at from; is_synced = false })

-- the file after a sync
abbrev pub synced : Unsealed → Unsealed
synced None = None
synced (Some f) = Some (record { name = f.name; octets = f.octets; is_synced = true })

-- what isn't sealed after a seal: the file that wasn't synced since the last write
abbrev pub left_unsealed : Unsealed → Unsealed
left_unsealed None = None
left_unsealed (Some f) = if f.is_synced then None else Some f

-- One stream's unsealed file makes this step, and the others stay.
pub record StepsAt (stream : ℕ) (step : Unsealed → Unsealed) (old new : ℕ → Unsealed) : Type 0 where
  pub here : new stream ≡ step (old stream)
  pub others : (s : ℕ) → s ≢ stream → new s ≡ old s

-- there was no memory for it
abbrev pub is_memory : {T : Type 0} → Result T ShelfStop → Bool
is_memory (Ok x) = false
is_memory (Err Failed) = false
is_memory (Err NoMemory) = true

-- The count of faults doesn't fall, and rose where a call failed, in no other case: not where it had no memory.
pub record HasStopCause {T E : Type 0} (starved : Bool) (before now : ℕ) (result : Result T E) : Type 0 where
  pub later : before ≤ now
  pub ok : OnOk result (now ≡ before)
  pub no_memory : starved ≡ true → now ≡ before
  pub failed : OnErr result (starved ≡ false → Rose before now)

-- A counted call came out as was planned.
pub record CallAsPlanned {T E : Type 0} (old : Schedule) (result : Result T E) (new : Schedule) : Type 0 where
  pub fails : is_err result ≡ is_failure (next_fate old)
  pub schedule : new ≡ after_call (next_fate old) old

-- A read came out as was planned.
pub record ReadAsPlanned {T E : Type 0} (old : Schedule) (result : Result T E) (new : Schedule) : Type 0 where
  pub fails : is_err result ≡ next_read_fails old
  pub schedule : new ≡ after_read old

-- a seal with this fate is done
abbrev pub is_done : Fate → Bool
is_done Runs = true
is_done Fails = false
is_done (Stops Old) = false
is_done (Stops New) = true
is_done (Stops Rot) = false

-- the sealed files after a seal with this fate
abbrev pub files_after : Fate → Unsealed → List SealedFile → List SealedFile
files_after fate f files = if is_done fate then files ++ sealed_as f else files

-- the stream's unsealed file after a seal with this fate
abbrev pub seal_step : Fate → Unsealed → Unsealed
seal_step fate f = if is_done fate then left_unsealed f else f

-- this file with a rotten octet in the place of each, as it stands
abbrev pub rotten : UnsealedFile → UnsealedFile
rotten f = record { name = f.name; octets = replicate (length f.octets) rot; is_synced = true }

-- what a stop leaves of an unsealed file that was synced since the last write, or not
abbrev pub left_where : Bool → Outcome3 → UnsealedFile → Unsealed
left_where true outcome f = Some f
left_where false Old f = None
left_where false New f = Some (record { name = f.name; octets = f.octets; is_synced = true })
left_where false Rot f = Some (rotten f)

-- What a stop leaves of a stream's unsealed file. One that wasn't synced since the last write is missing, stands as it
-- was written, or has a rotten octet in the place of each.
abbrev pub left_by : Outcome3 → Unsealed → Unsealed
left_by outcome None = None
left_by outcome (Some f) = left_where f.is_synced outcome f

-- A stop in a call that makes this step.
pub record StopsAt (outcome : Outcome3) (stream : ℕ) (step : Unsealed → Unsealed)
    (old new : ℕ → Unsealed) : Type 0 where
  pub here : new stream ≡ left_by outcome (step (old stream))
  pub others : (s : ℕ) → s ≢ stream → new s ≡ left_by outcome (old s)

-- The unsealed files after a counted call with this fate, which makes this step where it runs.
abbrev pub LeavesAfter : Fate → ℕ → (Unsealed → Unsealed) → (ℕ → Unsealed) → (ℕ → Unsealed) → Type 0
LeavesAfter Runs stream step old new = StepsAt stream step old new
LeavesAfter Fails stream step old new = (s : ℕ) → new s ≡ old s
LeavesAfter (Stops outcome) stream step old new = StopsAt outcome stream step old new

-- What is sealed and unsealed after a seal with this fate.
pub record SealLeaves (fate : Fate) (stream : ℕ) (before : ℕ → Unsealed) (files_before : List SealedFile)
    (after : ℕ → Unsealed) (files_after_it : List SealedFile) : Type 0 where
  pub files : files_after_it ≡ files_after fate (before stream) files_before
  pub unsealed : LeavesAfter fate stream (seal_step fate) before after

-- this call isn't made at all
abbrev pub is_refused : Fate → Bool
is_refused Runs = false
is_refused Fails = true
is_refused (Stops outcome) = false

-- what a call with this fate leaves of the unsealed files, once it did what it does
abbrev pub Left : Fate → (ℕ → Unsealed) → (ℕ → Unsealed) → Type 0
Left Runs old new = (s : ℕ) → new s ≡ old s
Left Fails old new = (s : ℕ) → new s ≡ old s
Left (Stops outcome) old new = (s : ℕ) → new s ≡ left_by outcome (old s)
