-- A gateway by the plan of its device: what holds of one that is up, and what a call makes of that.
use Rattle.std.specs.Prelude.{◌≡◌, ℕ, ◌≤◌, Bool, true, false, ◌&&◌, ◌==◌, nat_le, if◌then◌else◌, List, ◌++◌}
use Rattle.area_disk.specs.Armed.{Armed, Came, IsArmed, calls_under}
use Rattle.area_disk.specs.Armed.Armed.{Nothing}
use Rattle.area_disk.specs.Armed.Came.{Ran, FailedAt, StoppedAt}
use Rattle.area_disk.specs.declared.area.Area.{Ghosts}
use Rattle.area_disk.specs.declared.plan.Outcome3.{Outcome3}
use Rattle.gate_journal.specs.Planned.{is_new}
use Rattle.cgf_journal.specs.Trail.{stop_stands}
use Rattle.gw_base.specs.declared.history.HistoryEntry.{HistoryEntry}
use Rattle.gateway_book.specs.Book.{header_of, value_of}
use Rattle.gateway_book.specs.Calls.{Left}
use Rattle.gateway_book.specs.Comes.{Asked, AsksCommit, AsksNothing, AsksReopening, asked_to_commit, asked_to_ready, left_by_stop, plan_of}
use Rattle.gateway_book.specs.Opened.{StandsFitFor}
use Rattle.gateway_answer.specs.Value.{BookValue, Fortune, Gone, Refused, Whole}
use Rattle.gateway_book.specs.declared.book.Book.{Book}

-- What comes of a call: the book goes on, and this is armed then; it breaks, by a commit's last call or by one before
-- it; or the device stops, and the entries behind the firm ones stand or don't.
pub data Sequel : Type 0 where
  GoesOn : Armed → Sequel
  Breaks : Bool → Sequel
  Stops : Bool → Sequel

-- of a commit: its entries stand where a stop at its third or fourth call kept what was written
abbrev pub commit_sequel : Came → Sequel
commit_sequel (Ran armed) = GoesOn armed
commit_sequel (FailedAt call) = Breaks (call == 4)
commit_sequel (StoppedAt call outcome) = Stops (nat_le 3 call && is_new outcome)

-- of an opening again: the torn entries stand where the commit failed at its last call and the stop kept what was
-- written
abbrev pub reopening_sequel : Bool → Came → Sequel
reopening_sequel at_last (Ran armed) = GoesOn armed
reopening_sequel at_last (FailedAt call) = Breaks at_last
reopening_sequel at_last (StoppedAt call outcome) = Stops (at_last && is_new outcome)

-- of a call by what it asks, where this is armed, and the book was broken by a commit's last call or not
abbrev pub sequel_of : Asked → Armed → Bool → Sequel
sequel_of AsksNothing armed at_last = GoesOn armed
sequel_of AsksCommit armed at_last = commit_sequel (calls_under armed 4)
sequel_of AsksReopening armed at_last = reopening_sequel at_last (calls_under armed 1)

abbrev pub commit_sequel_of : Armed → Bool → BookValue → Sequel
commit_sequel_of armed at_last v = sequel_of (asked_to_commit v) armed at_last

abbrev pub ready_sequel_of : Armed → Bool → BookValue → Sequel
ready_sequel_of armed at_last v = sequel_of (asked_to_ready v) armed at_last

-- what the device does to the call then
abbrev pub fortune_by : Bool → Sequel → Fortune
fortune_by at_last (GoesOn armed) = record { fails = false; reopening = if at_last then Whole else Gone }
fortune_by at_last (Breaks last) = record { fails = true; reopening = Refused }
fortune_by at_last (Stops stands) = record { fails = true; reopening = Refused }

module _ {A : Type 0} {tells : Ghosts A} (header : List ℕ) where
  -- The gateway is up: its book stands for this, and this is armed. Of a broken one the torn entries stand after a stop
  -- that keeps what was written, where it was broken by a commit's last call, and after no other.
  pub record IsUp (v : BookValue) (armed : Armed) (at_last : Bool) (book : Book A tells) : Type 0 where
    pub value : value_of book ≡ v
    pub named : header_of book ≡ header
    pub is_armed : IsArmed armed (plan_of book).schedule
    pub has_spare : v.is_broken ≡ false → 1 ≤ (plan_of book).spare
    pub torn : v.is_broken ≡ true → (outcome : Outcome3) → stop_stands outcome book.trail ≡ (at_last && is_new outcome)

  -- The device of the gateway is stopped, and what a read gives of its area stands for this history.
  pub record IsCut (h : List HistoryEntry) (book : Book A tells) : Type 0 where
    pub named : header_of book ≡ header
    pub stopped : (plan_of book).schedule.stopped ≡ true
    pub leaves : (outcome : Outcome3) → left_by_stop outcome book ≡ h

  -- The gateway after a call of which this came, and which left this value.
  abbrev pub StandsAfter : Sequel → BookValue → Book A tells → Type 0
  StandsAfter (GoesOn armed) v book = (v.is_broken ≡ false) × IsUp v armed false book
  StandsAfter (Breaks at_last) v book = (v.is_broken ≡ true) × IsUp v Nothing at_last book
  StandsAfter (Stops stands) v book = IsCut (if stands then v.firm ++ v.rest else v.firm) book

  -- A call of which this came left this, and answered this.
  pub record HasLeft {R : Type 0} (sequel : Sequel) (left : Left R) (book : Book A tells) (result : R) : Type 0 where
    pub answer : result ≡ left.answer
    pub stands : StandsAfter sequel left.value book

-- An area holds this history: what a read gives of it stands for that, and every entry is fit. So it is of a gateway
-- that is down, and of one that is up once its area is handed out.
pub record HoldsHistory {A : Type 0} (tells : Ghosts A) (header : List ℕ) (h : List HistoryEntry) (area : A)
    : Type 0 where
  pub stands : StandsFitFor header (tells.octets area) h
