-- What the steps of an opening leave of the journal that they make.
use Rattle.std.specs.Prelude.{◌≡◌, ◌⊎◌, ℕ, false, List, []}
use Rattle.area_disk.specs.declared.area.Area.{Ghosts}
use Rattle.gate_journal.specs.Journal.{batches, front_of, header_of, is_closed, IsSettled}
use Rattle.gate_journal.specs.Moments.{Told}
use Rattle.gate_journal.specs.declared.faults.OpenFault.{OpenFault}
use Rattle.gate_journal.specs.declared.faults.OpenFault.TheVariants.{Device, NoMemory}
use Rattle.gate_journal.specs.declared.journal.Front.{Front}
use Rattle.gate_journal.specs.declared.journal.Journal.{Journal}

-- a journal with this header that takes batches
pub record IsReadyWith
    {A : Type 0} {tells : Ghosts A} (made : Front) (head : List ℕ) (journal : Journal A tells) : Type 0 where
  pub ready : is_closed journal ≡ false
  pub front : front_of journal ≡ made
  pub header : header_of journal ≡ head
  pub settled : IsSettled journal

-- and that has none yet
pub record IsAnew
    {A : Type 0} {tells : Ghosts A} (made : Front) (head : List ℕ) (journal : Journal A tells) : Type 0 where
  pub is : IsReadyWith made head journal
  pub batches : Told tells → batches journal ≡ []

-- the device failed, or there was no memory and the area is as it was
abbrev pub IsDeviceOr : {A : Type 0} → A → OpenFault × A → Type 0
IsDeviceOr area fault = (fault.0 ≡ Device) ⊎ ((fault.0 ≡ NoMemory) × (fault.1 ≡ area))
