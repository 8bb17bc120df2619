-- How a commit and an opening again come out by the plan of the device's calls.
use Rattle.std.specs.Prelude.{◌≡◌, true, Bool}
use Rattle.area_disk.specs.declared.area.Area.{Ghosts}
use Rattle.area_disk.specs.declared.plan.Outcome3.{Outcome3}
use Rattle.gate_journal.specs.Appending.{frame_ending, gate_ending}
use Rattle.gate_journal.specs.Planned.{SyncPlanned, after_append, append_fails, batch_stands, course_of, fate_of_sync, outcome_left}
use Rattle.cgf_journal.specs.Trail.{area_of, stop_stands}
use Rattle.cgf_journal.specs.declared.trail.Trail.{Trail}

-- A commit of entries came out as was planned: the call of the device that failed or was stopped, and its outcome,
-- decide whether the entries stand.
pub record CommitFollows {A : Type 0} {tells : Ghosts A} (old new : Trail A tells) (failed : Bool) : Type 0 where
  pub fails : failed ≡ append_fails (frame_ending old.journal) (gate_ending old.journal)
  pub course : course_of (tells.fate (area_of new)) ≡ after_append (course_of (tells.fate (area_of old)))
  pub stands : failed ≡ true → (outcome : Outcome3) → stop_stands outcome new ≡ batch_stands (frame_ending old.journal) (gate_ending old.journal) outcome

-- An opening again came out as was planned: it fails where its sync failed or was stopped, and then a stop that comes
-- now leaves what the outcome of that one leaves.
pub record ReopenFollows {A : Type 0} {tells : Ghosts A} (old new : Trail A tells) (failed : Bool) : Type 0 where
  pub planned : SyncPlanned (tells.fate (area_of old)) failed (tells.fate (area_of new))
  pub stands : failed ≡ true → (outcome : Outcome3) → stop_stands outcome new ≡ stop_stands (outcome_left (fate_of_sync (course_of (tells.fate (area_of old)))) outcome) old
