-- What came of a list of calls of a shelf.
use Rattle.std.specs.Prelude.{◌≡◌, ℕ, zero, suc, ◌+◌, ◌-◌, ◌≤◌, Bool, true, false, IsTrue, List, ◌++◌, length, take, Result, Ok, Err}
use Rattle.area_disk.specs.Armed.{Armed, Came, IsArmed, calls_under}
use Rattle.area_disk.specs.Armed.Armed.{Nothing}
use Rattle.area_disk.specs.Armed.Came.{Ran, FailedAt, StoppedAt}
use Rattle.area_disk.specs.Disk.{Rose, counted}
use Rattle.area_disk.specs.declared.plan.Outcome3.{Outcome3}
use Rattle.area_disk.specs.declared.plan.Outcome3.TheVariants.{Old, New, Rot}
use Rattle.cdr_shelf.specs.Files.{SealedFile}
use Rattle.cdr_shelf.specs.declared.shelf.Shelf.{Ghosts}
use Rattle.file_writer.specs.Calls.{Call, seals}
use Rattle.file_writer.specs.declared.fault.ShelfFault.{ShelfFault}
use Rattle.file_writer.specs.declared.fault.ShelfFault.TheVariants.{Device, NoMemory}

-- all were made, or the last one that was made failed, or there was no memory for the next one
pub data Ending : Type 0 where
  Went : Ending
  Failed : Ending
  Starved : Ending

abbrev pub ending_at : ShelfFault → Ending
ending_at Device = Failed
ending_at NoMemory = Starved

abbrev pub ending_of : {T : Type 0} → Result T ShelfFault → Ending
ending_of (Ok x) = Went
ending_of (Err fault) = ending_at fault

-- there was memory for each call
abbrev pub is_starved : Ending → Bool
is_starved Went = false
is_starved Failed = false
is_starved Starved = true

abbrev pub is_failed : Ending → Bool
is_failed Went = false
is_failed Failed = true
is_failed Starved = false

-- a number of calls after so many more
abbrev pub calls_after : ℕ → ℕ → ℕ
calls_after zero calls = calls
calls_after (suc n) calls = counted 1 (calls_after n calls)

-- So many calls were made, a failed one included, and sealed files in their order. A seal that failed may have sealed
-- its file.
pub record HasSealed (calls : List Call) (ended : Ending) (tried : ℕ) (old new : List SealedFile) : Type 0 where
  -- how many of the calls have done what they are to do
  pub count : ℕ
  pub at_most : count ≤ tried
  pub at_least : tried ≤ count + 1
  pub each : is_failed ended ≡ false → count ≡ tried
  pub files : new ≡ old ++ seals (take count calls)

-- The count of faults doesn't fall, and rose where a call failed, in no other case.
pub record HasFaults (ended : Ending) (before now : ℕ) : Type 0 where
  pub later : before ≤ now
  pub failed : ended ≡ Failed → Rose before now
  pub still : is_failed ended ≡ false → now ≡ before

-- how many of the calls up to a stop have done what they are to do
abbrev pub done_at : ℕ → Outcome3 → ℕ
done_at k Old = k - 1
done_at k New = k
done_at k Rot = k - 1

module _ {A : Type 0} (tells : Ghosts A) (calls : List Call) (ended : Ending) (tried : ℕ) (old new : A) where
  -- All ran, and this is armed then.
  pub record AllRan (armed : Armed) : Type 0 where
    pub runs : ended ≡ Went
    pub is_armed : IsArmed armed (tells.plan new)

  -- The call with this number failed, and nothing is armed any more.
  pub record OneFailed (k : ℕ) : Type 0 where
    pub fails : ended ≡ Failed
    pub number : tried ≡ k
    pub is_armed : IsArmed Nothing (tells.plan new)
    pub sealed : IsTrue tells.tells_files → tells.files new ≡ tells.files old ++ seals (take (k - 1) calls)

  -- The shelf was stopped at the call with this number.
  pub record OneStopped (k : ℕ) (outcome : Outcome3) : Type 0 where
    pub fails : ended ≡ Failed
    pub number : tried ≡ k
    pub stopped : (tells.plan new).stopped ≡ true
    pub sealed : IsTrue tells.tells_files → tells.files new ≡ tells.files old ++ seals (take (done_at k outcome) calls)

  abbrev pub Comes : Came → Type 0
  Comes (Ran armed) = AllRan armed
  Comes (FailedAt k) = OneFailed k
  Comes (StoppedAt k outcome) = OneStopped k outcome

-- These calls were made one after the other, until one failed or had no memory.
pub record Makes {A : Type 0} (tells : Ghosts A) (calls : List Call) (ended : Ending) (old new : A) : Type 0 where
  -- how many were made, a failed one included
  pub tried : ℕ
  pub within : tried ≤ length calls
  pub all : ended ≡ Went → tried ≡ length calls
  pub some : ended ≡ Failed → 1 ≤ tried
  pub called : IsTrue tells.tells_calls → tells.calls new ≡ calls_after tried (tells.calls old)
  pub sealed : IsTrue tells.tells_files → HasSealed calls ended tried (tells.files old) (tells.files new)
  pub faults : HasFaults ended (tells.faults old) (tells.faults new)
  pub planned : IsTrue tells.tells_plan → is_starved ended ≡ false → (a : Armed) → IsArmed a (tells.plan old)
      → Comes tells calls ended tried old new (calls_under a (length calls))
