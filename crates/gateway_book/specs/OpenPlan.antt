-- What comes of the opening of a book by the plan of the calls of the area.
use Rattle.std.specs.Prelude.{◌≡◌, ℕ, Bool, true, false, List, IfOk, Result}
use Rattle.area_disk.specs.Armed.{Armed, IsArmed, calls_under}
use Rattle.area_disk.specs.Armed.Came.{Ran}
use Rattle.area_disk.specs.Course.{IsTied}
use Rattle.area_disk.specs.declared.area.Area.{Ghosts}
use Rattle.gate_journal.specs.Format.{Starts}
use Rattle.gate_journal.specs.Moments.{Told}
use Rattle.gate_journal.specs.Opening.{failed_by}
use Rattle.gate_journal.specs.Planned.{SyncPlanned}
use Rattle.gateway_book.specs.Comes.{plan_of}
use Rattle.gateway_book.specs.Opened.{OnArea}
use Rattle.gateway_book.specs.declared.book.Book.{Book}
use Rattle.gateway_book.specs.declared.outcome.BookFault.{BookFault}
use Rattle.gateway_book.specs.declared.outcome.BookFault.TheVariants.{Device, NoMemory, NotOurs}

abbrev pub is_device_fault : BookFault → Bool
is_device_fault Device = true
is_device_fault (NotOurs at) = false
is_device_fault NoMemory = false

abbrev pub is_memory_fault : BookFault → Bool
is_memory_fault Device = false
is_memory_fault (NotOurs at) = false
is_memory_fault NoMemory = true

-- the device failed, or there was too little memory
abbrev pub is_device : {T A : Type 0} → Result T (BookFault × A) → Bool
is_device = failed_by is_device_fault

abbrev pub is_memory : {T A : Type 0} → Result T (BookFault × A) → Bool
is_memory = failed_by is_memory_fault

module _ {A : Type 0} {tells : Ghosts A} (area : A) (result : Result (Book A tells) (BookFault × A)) where
  -- The device didn't fail, and where a book was opened this is armed for the calls to come.
  pub record OpeningRuns (armed : Armed) : Type 0 where
    pub runs : is_device result ≡ false
    pub tied : IfOk result (λ book. IsTied armed (plan_of book))

  -- An opening comes out as was planned. It is a sync and reads, or, where the area is made anew, a sync and four calls
  -- more; where none of them is armed to fail or to stop, it doesn't fail by the device.
  pub record OpensAsPlanned (header : List ℕ) : Type 0 where
    pub unmade : Told tells → (Starts header (tells.octets area) → ⊥) → OnArea result (λ now. SyncPlanned (tells.fate area) (is_device result) (tells.fate now))
    pub found : Told tells → (Starts header (tells.octets area) → ⊥) → (a b : Armed) → IsArmed a (tells.fate area).schedule → calls_under a 1 ≡ Ran b → OpeningRuns b
    pub anew : Told tells → Starts header (tells.octets area) → (a b : Armed) → IsArmed a (tells.fate area).schedule → calls_under a 5 ≡ Ran b → OpeningRuns b
