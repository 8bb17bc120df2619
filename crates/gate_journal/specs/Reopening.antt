-- What an opening again leaves, by its outcomes.
use Rattle.std.specs.Prelude.{◌≡◌, ◌⊎◌, ◌+◌, Bool, true, false, length}
use Rattle.area_disk.specs.declared.area.Area.{Ghosts}
use Rattle.area_disk.specs.declared.plan.Outcome3.{Outcome3}
use Rattle.gate_journal.specs.Journal.{area_of, header_of, front_of, batches, end, is_closed, torn, stop_stands, reopened, reopened_end, reopened_front, KeepsOr, IsSettled}
use Rattle.gate_journal.specs.Moments.{Told, Leaves}
use Rattle.gate_journal.specs.Planned.{SyncPlanned, course_of, fate_of_sync, outcome_left}
use Rattle.gate_journal.specs.State.{Keeps}
use Rattle.gate_journal.specs.declared.journal.Front.TheVariants.{Founded}
use Rattle.gate_journal.specs.declared.journal.Journal.{Journal}

module _ {A : Type 0} {tells : Ghosts A} (old new : Journal A tells) where
  -- It takes batches again, and the torn one stands behind the others just where its gate is open.
  pub record IsReopened : Type 0 where
    pub ready : is_closed new ≡ false
    pub settled : IsSettled new
    pub front : Told tells → front_of new ≡ reopened_front old
    pub batches : Told tells → batches new ≡ reopened old
    pub place : Told tells → end new ≡ reopened_end old
    -- where nothing is told the list ends in one of two places
    pub end : (end new ≡ end old) ⊎ (end new ≡ end old + 5 + length (torn old))

  -- It is closed or not as before, and has its batches and the torn one.
  pub record IsStill : Type 0 where
    pub front : front_of new ≡ front_of old
    pub batches : Told tells → batches new ≡ batches old
    pub end : end new ≡ end old
    pub closed : is_closed new ≡ is_closed old
    pub torn : torn new ≡ torn old

  -- A crash at any moment of the call leaves the batches, with the torn one or without; without where none is torn.
  pub record ReopenLeaves : Type 0 where
    pub any : Told tells → Leaves tells (area_of old) (area_of new)
        (KeepsOr (front_of old) (header_of old) (batches old) (torn old))
    pub ready : Told tells → is_closed old ≡ false → Leaves tells (area_of old) (area_of new)
        (Keeps (front_of old) (header_of old) (batches old))

  -- what stays whether it opens or not
  pub record ReopenStays : Type 0 where
    pub size : tells.size (area_of new) ≡ tells.size (area_of old)
    pub header : header_of new ≡ header_of old
    pub founded : front_of old ≡ Founded → front_of new ≡ Founded
    pub end : is_closed old ≡ false → end new ≡ end old

  -- An opening again came out as was planned: it fails where its sync failed or was stopped, and then a stop that comes
  -- now leaves what the outcome of that one leaves.
  pub record ReopenFollows (failed : Bool) : Type 0 where
    pub planned : SyncPlanned (tells.fate (area_of old)) failed (tells.fate (area_of new))
    pub stands : failed ≡ true → (outcome : Outcome3) →
        stop_stands outcome new
        ≡ stop_stands (outcome_left (fate_of_sync (course_of (tells.fate (area_of old)))) outcome) old
