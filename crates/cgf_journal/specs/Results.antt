-- What an opening finds, and what it leaves of the area.
use Rattle.std.specs.Prelude.{◌≡◌, ◌≢◌, ◌⊎◌, ℕ, ◌≤◌, IsTrue, false, List, [], Result, Ok, Err, IfOk, IfErr, IsErrAnd}
use Rattle.area_disk.specs.Disk.{Rose, counted}
use Rattle.area_disk.specs.declared.area.Area.{Ghosts}
use Rattle.gw_base.specs.declared.history.HistoryEntry.{HistoryEntry}
use Rattle.gate_journal.specs.Format.{Starts}
use Rattle.gate_journal.specs.Moments.{Leaves, Told}
use Rattle.gate_journal.specs.declared.faults.OpenFault.{OpenFault}
use Rattle.gate_journal.specs.declared.faults.OpenFault.TheVariants.{Device, NoMemory, NotOurs}
use Rattle.cgf_journal.specs.Fit.{AreFit}
use Rattle.cgf_journal.specs.Format.{StandsFor, entries_in}
use Rattle.cgf_journal.specs.Trail.{IsSettled, area_of, entries, firm_entries, firm_length, header_of, is_closed, length_of, waiting, waiting_octets}
use Rattle.cgf_journal.specs.declared.trail.Trail.{Trail}

-- a fact of the area, which an opening keeps in the trail or hands back
abbrev pub OnArea : {A F : Type 0} {tells : Ghosts A} → Result (Trail A tells) (F × A) → (A → Type 0) → Type 0
OnArea (Ok trail) P = P (area_of trail)
OnArea (Err fault) P = P fault.1

-- The trail has this header and is open, and all its entries are firm.
pub record IsFresh {A : Type 0} {tells : Ghosts A} (header : List ℕ) (trail : Trail A tells) : Type 0 where
  pub named : header_of trail ≡ header
  pub opened : is_closed trail ≡ false
  pub all : entries trail ≡ firm_entries trail
  pub none_waits : waiting trail ≡ []
  pub emptied : waiting_octets trail ≡ 0
  pub length : length_of trail ≡ firm_length trail
  pub settled : IsSettled trail

-- The trail's firm entries are those of these batches, which are fit, and a judge was asked of them.
pub record IsTrailOf {A : Type 0} {tells : Ghosts A} (fits : ℕ → List HistoryEntry → HistoryEntry → Type 0) (size : ℕ)
    (batches : List (List ℕ)) (Asked : List HistoryEntry → Type 0) (trail : Trail A tells) : Type 0 where
  pub are_fit : AreFit fits size batches
  pub entries : firm_entries trail ≡ entries_in batches
  pub asked : Asked (firm_entries trail)

module _ {A : Type 0} (tells : Ghosts A) where
  -- The trail has the history that the area stands for, or the area was made anew.
  pub record IsOpened (header : List ℕ) (area : A) (Stands : List ℕ → List HistoryEntry → Type 0) (trail : Trail A tells) : Type 0 where
    pub found : Told tells → Stands (tells.octets area) (firm_entries trail) ⊎ (Starts header (tells.octets area) × (firm_entries trail ≡ []))
    pub fresh : IsFresh header trail
    pub faults : tells.faults (area_of trail) ≡ tells.faults area

  -- The faults rose where the device failed and nowhere else.
  pub record RoseByDevice (area : A) (result : Result (Trail A tells) (OpenFault × A)) : Type 0 where
    pub faults : IfOk result (λ trail. tells.faults (area_of trail) ≡ tells.faults area)
    pub faults_err : IfErr result (λ fault. tells.faults area ≤ tells.faults fault.1)
    pub device : IfErr result (λ fault. fault.0 ≡ Device → Rose (tells.faults area) (tells.faults fault.1))
    pub still : IfErr result (λ fault. fault.0 ≢ Device → tells.faults fault.1 ≡ tells.faults area)

  -- The opening failed, and hands the area back; it was foreign at the place that `NotOurs` names.
  pub record IsRefused (area : A) (Foreign : List ℕ → ℕ → Type 0) (fault : OpenFault × A) : Type 0 where
    pub place : Told tells → (at : ℕ) → fault.0 ≡ NotOurs at → Foreign (tells.octets area) at
    pub cause : fault.0 ≡ Device → Rose (tells.faults area) (tells.faults fault.1)
    pub still : fault.0 ≢ Device → tells.faults fault.1 ≡ tells.faults area
    pub faults : tells.faults area ≤ tells.faults fault.1
    pub unwritten : Told tells → (fault.0 ≡ Device) ⊎ (tells.octets fault.1 ≡ tells.octets area)

  -- An area that stands for a history opens with that, and a crash leaves what it could before.
  pub record FindsHistory (area : A) (result : Result (Trail A tells) (OpenFault × A)) (h : List HistoryEntry) : Type 0 where
    pub listed : IfOk result (λ trail. firm_entries trail ≡ h)
    pub moments : OnArea result (λ now. Leaves tells area now (tells.may_leave area))
    pub calls : IsTrue tells.tells_calls → IfOk result (λ trail. tells.calls (area_of trail) ≡ counted 1 (tells.calls area))

  -- An area that starts is made anew; a crash leaves what it could before, or an area that starts or has no entry.
  pub record IsMadeAnew (header : List ℕ) (area : A) (result : Result (Trail A tells) (OpenFault × A)) : Type 0 where
    pub listed : IfOk result (λ trail. firm_entries trail ≡ [])
    pub moments : OnArea result (λ now. Leaves tells area now (λ c. tells.may_leave area c ⊎ (Starts header c ⊎ StandsFor header c [])))
    pub calls : IsTrue tells.tells_calls → IfOk result (λ trail. tells.calls (area_of trail) ≡ counted 5 (tells.calls area))

  -- An area that is foreign at this place is refused there, and a crash leaves what it could before.
  pub record RefusesForeign (area : A) (result : Result (Trail A tells) (OpenFault × A)) (at : ℕ) : Type 0 where
    pub place : IsErrAnd result (λ fault. (fault.0 ≡ NotOurs at) ⊎ ((fault.0 ≡ Device) ⊎ (fault.0 ≡ NoMemory)))
    pub moments : OnArea result (λ now. Leaves tells area now (tells.may_leave area))
