-- What an opening of a book finds, and what it leaves of the area.
use Rattle.std.specs.Prelude.{◌≡◌, ◌≢◌, ◌⊎◌, ℕ, ◌≤◌, IsTrue, false, List, [], Result, Ok, Err, IfOk, IsErrAnd}
use Rattle.area_disk.specs.Disk.{Rose, counted}
use Rattle.area_disk.specs.declared.area.Area.{Ghosts}
use Rattle.gate_journal.specs.Format.{Starts}
use Rattle.gate_journal.specs.Moments.{Leaves, Told}
use Rattle.cgf_journal.specs.Fit.{IsUnfitTo}
use Rattle.cgf_journal.specs.Format.{StandsFor}
use Rattle.cgf_journal.specs.Trail.{is_closed}
use Rattle.gw_base.specs.declared.history.HistoryEntry.{HistoryEntry}
use Rattle.gateway_book.specs.Book.{IsFirm, area_of, header_of, open_time_of, value_of}
use Rattle.gateway_answer.specs.Fit.{IsFit}
pub use Rattle.gateway_answer.specs.FitHistory.{StandsFitFor}
use Rattle.gateway_answer.specs.Value.{opened}
use Rattle.gateway_book.specs.declared.book.Book.{Book}
use Rattle.gateway_book.specs.declared.outcome.BookFault.{BookFault}
use Rattle.gateway_book.specs.declared.outcome.BookFault.TheVariants.{Device, NoMemory, NotOurs}

-- a fact of the area, which an opening keeps in the book or hands back
abbrev pub OnArea : {A F : Type 0} {tells : Ghosts A} → Result (Book A tells) (F × A) → (A → Type 0) → Type 0
OnArea (Ok book) P = P (area_of book)
OnArea (Err fault) P = P fault.1

-- they stand for it, or they start, and it has no entry
abbrev pub StandsOrStarts : List ℕ → List ℕ → List HistoryEntry → Type 0
StandsOrStarts header octets h = StandsFitFor header octets h ⊎ (Starts header octets × (h ≡ []))

-- the octets stand for no such history and don't start either, and this place shows it: the first octet of the header
-- that differs, or the first open gate whose batch isn't whole or holds an entry that isn't fit
abbrev pub IsNotOurs : List ℕ → List ℕ → ℕ → Type 0
IsNotOurs header octets at = IsUnfitTo IsFit header octets at

module _ {A : Type 0} {tells : Ghosts A} (header : List ℕ) (area : A) where
  -- The book has the history that the area stands for, which each crash leaves, and a Start where there was room for
  -- one; no commit failed yet.
  pub record IsOpened (open_time : ℕ) (book : Book A tells) : Type 0 where
    pub found : Told tells → (h : List HistoryEntry) × StandsOrStarts header (tells.octets area) h × (value_of book ≡ opened (tells.size area) h)
    pub whole : is_closed book.trail ≡ false
    pub firm : IsFirm book
    pub uncut : book.cuts ≡ 0
    pub named : header_of book ≡ header
    pub set : open_time_of book ≡ open_time
    pub faults : tells.faults (area_of book) ≡ tells.faults area

module _ {A : Type 0} (tells : Ghosts A) (area : A) where
  -- The opening failed, and hands the area back; it isn't ours at the place that `NotOurs` names. Nothing was written
  -- where the device didn't fail.
  pub record IsRefused (header : List ℕ) (fault : BookFault × A) : Type 0 where
    pub place : Told tells → (at : ℕ) → fault.0 ≡ NotOurs at → IsNotOurs header (tells.octets area) at
    pub unwritten : Told tells → fault.0 ≢ Device → tells.octets fault.1 ≡ tells.octets area
    pub cause : fault.0 ≡ Device → Rose (tells.faults area) (tells.faults fault.1)
    pub still : fault.0 ≢ Device → tells.faults fault.1 ≡ tells.faults area
    pub faults : tells.faults area ≤ tells.faults fault.1

module _ {A : Type 0} {tells : Ghosts A} (area : A) (result : Result (Book A tells) (BookFault × A)) where
  -- An area that stands for a history opens with that, and a crash leaves what it could before.
  pub record FindsHistory (h : List HistoryEntry) : Type 0 where
    pub value : IfOk result (λ book. value_of book ≡ opened (tells.size area) h)
    pub moments : OnArea result (λ now. Leaves tells area now (tells.may_leave area))
    pub calls : IsTrue tells.tells_calls → IfOk result (λ book. tells.calls (area_of book) ≡ counted 1 (tells.calls area))

  -- An area that starts is made anew; a crash leaves what it could before, or an area that starts or has no entry.
  pub record IsMadeAnew (header : List ℕ) : Type 0 where
    pub value : IfOk result (λ book. value_of book ≡ opened (tells.size area) [])
    pub moments : OnArea result (λ now. Leaves tells area now (λ c. tells.may_leave area c ⊎ (Starts header c ⊎ StandsFor header c [])))
    pub calls : IsTrue tells.tells_calls → IfOk result (λ book. tells.calls (area_of book) ≡ counted 5 (tells.calls area))

  -- An area that isn't ours at this place is refused there, and a crash leaves what it could before.
  pub record RefusesForeign (at : ℕ) : Type 0 where
    pub place : IsErrAnd result (λ fault. (fault.0 ≡ NotOurs at) ⊎ ((fault.0 ≡ Device) ⊎ (fault.0 ≡ NoMemory)))
    pub moments : OnArea result (λ now. Leaves tells area now (tells.may_leave area))
