-- What comes of an opening by the plan of the calls of the area.
use Rattle.std.specs.Prelude.{◌≡◌, Bool, true, false, List, ℕ, IfOk, Result}
use Rattle.area_disk.specs.declared.area.Area.{Ghosts}
use Rattle.gate_journal.specs.Format.{Starts}
use Rattle.gate_journal.specs.Moments.{Told}
use Rattle.gate_journal.specs.Opening.{after_look, failed_by, is_device}
use Rattle.gate_journal.specs.OpenPlanned.{IsCalm}
use Rattle.gate_journal.specs.Planned.{Course, SyncPlanned, after_append, after_put, append_fails, course_of, ending_of, with_reads}
use Rattle.gate_journal.specs.declared.faults.OpenFault.{OpenFault}
use Rattle.gate_journal.specs.declared.faults.OpenFault.TheVariants.{Device, NoMemory, NotOurs}
use Rattle.cgf_journal.specs.Results.{OnArea}
use Rattle.cgf_journal.specs.Trail.{area_of}
use Rattle.cgf_journal.specs.declared.trail.Trail.{Trail}

abbrev pub is_memory_fault : OpenFault → Bool
is_memory_fault Device = false
is_memory_fault (NotOurs at) = false
is_memory_fault NoMemory = true

-- there was too little memory
abbrev pub is_memory : {T A : Type 0} → Result T (OpenFault × A) → Bool
is_memory = failed_by is_memory_fault

-- The device didn't fail, and where a trail was opened this is the plan then.
pub record MadeBy {A : Type 0} (tells : Ghosts A) (result : Result (Trail A tells) (OpenFault × A)) (course : Course) : Type 0 where
  pub runs : is_device result ≡ false
  pub after : IfOk result (λ trail. course_of (tells.fate (area_of trail)) ≡ with_reads (tells.fate (area_of trail)).schedule.reads course)

-- An opening came out as was planned: it is a sync and reads; and where an area is made anew the device doesn't fail
-- while none of the sync and the four calls after it does.
pub record OpenFollows {A : Type 0} (tells : Ghosts A) (area : A) (result : Result (Trail A tells) (OpenFault × A)) (header : List ℕ) : Type 0 where
  pub unmade : Told tells → (Starts header (tells.octets area) → ⊥) →
      OnArea result (λ now. SyncPlanned (tells.fate area) (is_device result) (tells.fate now))
  pub anew : Told tells → Starts header (tells.octets area) → IsCalm (tells.fate area) →
      append_fails (ending_of (after_look tells area)) (ending_of (after_put (after_look tells area))) ≡ false →
      MadeBy tells result (after_append (after_look tells area))
