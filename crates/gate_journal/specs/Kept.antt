-- What a call leaves of a journal as it was.
use Rattle.std.specs.Prelude.{◌≡◌, IsTrue}
use Rattle.area_disk.specs.declared.area.Area.{Ghosts}
use Rattle.area_disk.specs.declared.plan.Outcome3.{Outcome3}
use Rattle.gate_journal.specs.Journal.{area_of, header_of, front_of, batches, end, is_closed, torn, torn_stands, stop_stands}
use Rattle.gate_journal.specs.Moments.{Kept, Leaves}
use Rattle.gate_journal.specs.declared.journal.Journal.{Journal}

module _ {A : Type 0} {tells : Ghosts A} (old new : Journal A tells) where
  -- the area's length, the header and the front stay
  pub record Stays : Type 0 where
    pub size : tells.size (area_of new) ≡ tells.size (area_of old)
    pub header : header_of new ≡ header_of old
    pub front : front_of new ≡ front_of old

  -- all that contracts see of the journal beside its area is as before
  pub record IsAsBefore : Type 0 where
    pub header : header_of new ≡ header_of old
    pub front : front_of new ≡ front_of old
    pub batches : batches new ≡ batches old
    pub end : end new ≡ end old
    pub closed : is_closed new ≡ is_closed old
    pub torn : torn new ≡ torn old
    pub torn_stands : torn_stands new ≡ torn_stands old
    pub stop_stands : IsTrue tells.tells_fate → (outcome : Outcome3) → stop_stands outcome new ≡ stop_stands outcome old

  -- nothing that contracts see of the journal changed
  pub record IsUnchanged : Type 0 where
    pub area : area_of new ≡ area_of old
    pub same : IsAsBefore

  -- The journal is as before, and so is what a crash leaves: no counted call was made.
  pub record IsKept : Type 0 where
    pub area : Kept tells (area_of old) (area_of new)
    pub same : IsAsBefore

  -- The journal is as before, and so is what a crash leaves; the calls may be counted anew.
  pub record IsArmed : Type 0 where
    pub crash : Leaves tells (area_of old) (area_of new) (tells.may_leave (area_of old))
    pub faults : tells.faults (area_of new) ≡ tells.faults (area_of old)
    pub size : tells.size (area_of new) ≡ tells.size (area_of old)
    pub same : IsAsBefore
