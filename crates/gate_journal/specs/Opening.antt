-- What the opening of a journal, its drafting and its making leave.
use Rattle.std.specs.Prelude.{◌≡◌, ◌≢◌, ◌⊎◌, ℕ, ◌≤◌, Bool, true, false, List, [], take, drop, slice_index, IsTrue, IfOk, IfErr, Result, Ok, Err}
use Rattle.area_disk.specs.Disk.{Rose, counted}
use Rattle.area_disk.specs.declared.area.Area.{Ghosts}
use Rattle.area_disk.specs.declared.plan.Fate.TheVariants.{Runs}
use Rattle.gate_journal.specs.Format.{header, open_gate, gate_at, IsForeign, Stands, Starts}
use Rattle.gate_journal.specs.Journal.{area_of, batches, front_of, header_of, is_closed, IsSettled}
use Rattle.gate_journal.specs.Moments.{Told, Leaves, RoseUpTo}
use Rattle.gate_journal.specs.Planned.{Course, after_sync, course_of}
use Rattle.gate_journal.specs.declared.journal.Front.TheVariants.{Draft, Founded}
use Rattle.gate_journal.specs.declared.journal.Journal.{Journal}
use Rattle.gate_journal.specs.declared.faults.OpenFault.{OpenFault}
use Rattle.gate_journal.specs.declared.faults.OpenFault.TheVariants.{Device, NoMemory, NotOurs}

-- a fact of the area, which an opening keeps in the journal or hands back
abbrev pub OnArea : {A : Type 0} {tells : Ghosts A} → Result (Journal A tells) (OpenFault × A) → (A → Type 0) → Type 0
OnArea (Ok journal) P = P (area_of journal)
OnArea (Err fault) P = P fault.1

-- all of a header but its first octet stands, and behind it a closed gate
pub record IsLaid (header octets : List ℕ) : Type 0 where
  pub rest : drop 1 (take 32 octets) ≡ drop 1 header
  pub first : slice_index octets 0 ≢ slice_index header 0
  pub shut : gate_at octets 32 ≢ open_gate

-- an area while it is made anew: an opening makes it anew, or it stands for no batch
abbrev pub IsMaking : List ℕ → List ℕ → Type 0
IsMaking header octets = Starts header octets ⊎ Stands header octets []

abbrev pub is_device_fault : OpenFault → Bool
is_device_fault Device = true
is_device_fault (NotOurs at) = false
is_device_fault NoMemory = false

-- it failed by a fault of this kind
abbrev pub failed_by : {F T A : Type 0} → (F → Bool) → Result T (F × A) → Bool
failed_by is_kind (Ok value) = false
failed_by is_kind (Err fault) = is_kind fault.0

-- it failed by the device
abbrev pub is_device : {T A : Type 0} → Result T (OpenFault × A) → Bool
is_device = failed_by is_device_fault

module _ {A : Type 0} (tells : Ghosts A) (area : A) where
  -- The header that an area of this size has with this address and generation.
  abbrev pub header_for : ℕ → ℕ → List ℕ
  header_for address generation = header (tells.size area) address generation

  -- the plan behind a sync that runs
  abbrev pub after_look : Course
  after_look = after_sync Runs (course_of (tells.fate area))

  module _ (head : List ℕ) where
    -- The journal is the one that the area stands for; that of an area made anew has no batch.
    pub record IsOpened (journal : Journal A tells) : Type 0 where
      pub ready : is_closed journal ≡ false
      pub front : front_of journal ≡ Founded
      pub header : header_of journal ≡ head
      pub settled : IsSettled journal
      pub reads : Told tells → (bs : List (List ℕ)) → Stands head (tells.octets area) bs → batches journal ≡ bs
      pub anew : Told tells → Starts head (tells.octets area) → batches journal ≡ []
      pub found : Told tells → Starts head (tells.octets area) ⊎ (tells.octets (area_of journal) ≡ tells.octets area)

    -- The area is no journal of ours, and this place shows it; but by the device nothing was written.
    pub record IsRefused (fault : OpenFault) (now : A) : Type 0 where
      pub not_ours : Told tells → (at : ℕ) → fault ≡ NotOurs at → IsForeign head (tells.octets area) at
      pub unwritten : Told tells → (fault ≡ Device) ⊎ (tells.octets now ≡ tells.octets area)

    -- A crash at any moment leaves what it could before, unless the area is made anew.
    pub record OpenLeaves (now : A) : Type 0 where
      pub unmade : Told tells → (Starts head (tells.octets area) → ⊥) → Leaves tells area now (tells.may_leave area)
      pub anew : Told tells → Starts head (tells.octets area) →
          Leaves tells area now (λ c. tells.may_leave area c ⊎ IsMaking head c)

    -- The journal has no batch, on an area that starts.
    pub record IsDrafted (journal : Journal A tells) : Type 0 where
      pub ready : is_closed journal ≡ false
      pub front : front_of journal ≡ Draft
      pub header : header_of journal ≡ head
      pub settled : IsSettled journal
      pub started : Told tells → Starts head (tells.octets area)
      pub batches : Told tells → batches journal ≡ []

    -- The area doesn't start, or the device failed, or there was no memory.
    pub record IsUndrafted (fault : OpenFault) (now : A) : Type 0 where
      pub not_ours : Told tells → (at : ℕ) → fault ≡ NotOurs at → (at ≡ 0) × (Starts head (tells.octets area) → ⊥)
      pub unwritten : Told tells → (fault ≡ Device) ⊎ (tells.octets now ≡ tells.octets area)

  module _ (result : Result (Journal A tells) (OpenFault × A)) where
    -- the faults rose where the device failed and nowhere else
    pub record RoseByDevice : Type 0 where
      pub faults : IfOk result (λ journal. tells.faults (area_of journal) ≡ tells.faults area)
      pub faults_err : IfErr result (λ fault. tells.faults area ≤ tells.faults fault.1)
      pub device : IfErr result (λ fault. fault.0 ≡ Device → Rose (tells.faults area) (tells.faults fault.1))
      pub still : IfErr result (λ fault. fault.0 ≢ Device → tells.faults fault.1 ≡ tells.faults area)

    -- one call of the device, or five where the area is made anew
    pub record OpenCounts (head : List ℕ) : Type 0 where
      pub cause : RoseByDevice
      pub calls : IsTrue tells.tells_calls → Told tells → (Starts head (tells.octets area) → ⊥) →
          OnArea result (λ now. tells.calls now ≡ counted 1 (tells.calls area))
      pub calls_anew : IsTrue tells.tells_calls → Told tells → Starts head (tells.octets area) →
          IfOk result (λ journal. tells.calls (area_of journal) ≡ counted 5 (tells.calls area))
      pub calls_any : IsTrue tells.tells_calls → OnArea result (λ now. RoseUpTo 5 (tells.calls area) (tells.calls now))

    -- three calls of the device
    pub record DraftCounts : Type 0 where
      pub cause : RoseByDevice
      pub calls : IsTrue tells.tells_calls →
          IfOk result (λ journal. tells.calls (area_of journal) ≡ counted 3 (tells.calls area))
      pub calls_any : IsTrue tells.tells_calls → OnArea result (λ now. RoseUpTo 3 (tells.calls area) (tells.calls now))
