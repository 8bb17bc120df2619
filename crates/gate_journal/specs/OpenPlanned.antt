-- What comes of an opening and of a draft by the plan of the calls of the area.
use Rattle.std.specs.Prelude.{◌≡◌, ℕ, false, List, [], IfOk, Result}
use Rattle.area_disk.specs.Plan.{Prospect, is_failure}
use Rattle.area_disk.specs.declared.area.Area.{Ghosts}
use Rattle.gate_journal.specs.Format.{Starts}
use Rattle.gate_journal.specs.Journal.{area_of}
use Rattle.gate_journal.specs.Moments.{Told}
use Rattle.gate_journal.specs.Opening.{OnArea, after_look, is_device}
use Rattle.gate_journal.specs.Planned.{SyncPlanned, Course, after_append, after_put, append_fails, course_of, ending_of, fate_of_sync, is_ended, with_reads}
use Rattle.gate_journal.specs.declared.faults.OpenFault.{OpenFault}
use Rattle.gate_journal.specs.declared.journal.Journal.{Journal}

-- no read is to fail, and the next call, which is a sync, runs
pub record IsCalm (old : Prospect) : Type 0 where
  pub reads : old.schedule.read_fail ≡ []
  pub runs : is_failure (fate_of_sync (course_of old)) ≡ false

-- the device didn't fail, and where a journal was made this is the plan then
pub record MadeBy
    {A : Type 0} (tells : Ghosts A) (result : Result (Journal A tells) (OpenFault × A)) (course : Course) : Type 0 where
  pub runs : is_device result ≡ false
  pub after : IfOk result (λ journal. course_of (tells.fate (area_of journal)) ≡
      with_reads (tells.fate (area_of journal)).schedule.reads course)

module _ {A : Type 0} (tells : Ghosts A) (area : A) (result : Result (Journal A tells) (OpenFault × A)) where
  -- An opening came out as was planned: it is a sync and reads; and where an area is made anew the device doesn't fail
  -- while none of the sync and the four calls after it does.
  pub record OpenFollows (head : List ℕ) : Type 0 where
    pub unmade : Told tells → (Starts head (tells.octets area) → ⊥) →
        OnArea result (λ now. SyncPlanned (tells.fate area) (is_device result) (tells.fate now))
    pub anew : Told tells → Starts head (tells.octets area) → IsCalm (tells.fate area) →
        append_fails (ending_of (after_look tells area)) (ending_of (after_put (after_look tells area))) ≡ false →
        MadeBy tells result (after_append (after_look tells area))

  -- A draft came out as was planned: the device doesn't fail while none of its sync and the two calls after it does.
  abbrev pub DraftFollows : Type 0
  DraftFollows = IsCalm (tells.fate area) → is_ended (ending_of (after_look tells area)) ≡ false →
      MadeBy tells result (after_put (after_look tells area))
