-- What contracts see of a book.
use Rattle.std.specs.Prelude.{◌≡◌, ℕ, ◌≤◌, Bool, true, false, List, ◌++◌}
use Rattle.area_disk.specs.Disk.{Rose, counted}
use Rattle.area_disk.specs.declared.area.Area.{Ghosts}
use Rattle.gate_journal.specs.Moments.{Leaves, Told}
use Rattle.cgf_journal.specs.Trail as trail
use Rattle.gateway_book.specs.Calls.{Left, length_at}
use Rattle.gateway_answer.specs.FitHistory.{StandsFitFor, StandsFitForOr}
use Rattle.gateway_answer.specs.Value.{BookValue, Fortune, Reopening, Whole, Gone, Refused}
use Rattle.gateway_book.specs.declared.book.Book.{Book}

-- what a book stands for
abbrev pub value_of : {A : Type 0} {tells : Ghosts A} → Book A tells → BookValue
value_of book = record {
  firm = trail.firm_entries book.trail;
  rest = trail.waiting book.trail;
  cuts = book.cuts;
  is_broken = trail.is_closed book.trail;
}

-- the area that it stands on, its length, and the header
abbrev pub area_of : {A : Type 0} {tells : Ghosts A} → Book A tells → A
area_of book = trail.area_of book.trail

abbrev pub size_of : {A : Type 0} {tells : Ghosts A} → Book A tells → ℕ
size_of {tells = tells} book = tells.size (area_of book)

abbrev pub header_of : {A : Type 0} {tells : Ghosts A} → Book A tells → List ℕ
header_of book = trail.header_of book.trail

abbrev pub open_time_of : {A : Type 0} {tells : Ghosts A} → Book A tells → ℕ
open_time_of book = book.open_time

-- the length that never falls
abbrev pub length_of : {A : Type 0} {tells : Ghosts A} → Book A tells → ℕ
length_of book = length_at book.cuts (trail.firm_length book.trail) book.kept

-- Each crash leaves the firm entries, all of them fit.
pub record IsFirm {A : Type 0} {tells : Ghosts A} (book : Book A tells) : Type 0 where
  pub crash : Told tells → (c : List ℕ) → tells.may_leave (area_of book) c
      → StandsFitFor (header_of book) c (value_of book).firm

-- what an opening again finds, by whether it fails, and by whether the torn entries stand
abbrev pub reopening_of : Bool → Bool → Reopening
reopening_of true stands = Refused
reopening_of false true = Whole
reopening_of false false = Gone

module _ {A : Type 0} {tells : Ghosts A} (old new : Book A tells) where
  -- what the device did to a call that found one book and left another: where it is broken afterwards, a commit or an
  -- opening again failed; else an opening again found the torn entries where they stood
  abbrev pub fortune_of : Fortune
  fortune_of = record {
    fails = trail.is_closed new.trail;
    reopening = reopening_of (trail.is_closed new.trail) (trail.torn_stands old.trail);
  }

  -- The call left this book, and answered this.
  pub record IsLeft {R : Type 0} (left : Left R) (result : R) : Type 0 where
    pub value : value_of new ≡ left.value
    pub answer : result ≡ left.answer

  -- The area's length, its header and what the book was set up with stay.
  pub record Stays : Type 0 where
    pub size : size_of new ≡ size_of old
    pub header : header_of new ≡ header_of old
    pub open_time : open_time_of new ≡ open_time_of old

  -- What a call counts. The count of faults rose in the call where the book is broken afterwards and nowhere else, and
  -- so did that of the commits and openings again that failed, by one. No firm entry is lost, and none at all where the
  -- book goes on. The length that never falls is that of the firm part, while nothing had failed before the call.
  pub record HasCause : Type 0 where
    pub later : tells.faults (area_of old) ≤ tells.faults (area_of new)
    pub broken : trail.is_closed new.trail ≡ true → Rose (tells.faults (area_of old)) (tells.faults (area_of new))
    pub still : trail.is_closed new.trail ≡ false → tells.faults (area_of new) ≡ tells.faults (area_of old)
    pub cut : trail.is_closed new.trail ≡ true → new.cuts ≡ counted 1 old.cuts
    pub uncut : trail.is_closed new.trail ≡ false → new.cuts ≡ old.cuts
    pub more : old.cuts ≤ new.cuts
    pub firm : trail.firm_length old.trail ≤ trail.firm_length new.trail
    pub entries : trail.is_closed new.trail ≡ false → trail.length_of old.trail ≤ trail.length_of new.trail
    pub length : length_of new ≡ length_at old.cuts (trail.firm_length new.trail) old.kept

  -- A crash at any moment of the call leaves the firm entries, or these with those behind them, all of them fit.
  abbrev pub CrashLeaves : Type 0
  CrashLeaves = Told tells → Leaves tells (area_of old) (area_of new)
      (StandsFitForOr (header_of old) (value_of old).firm ((value_of old).firm ++ (value_of old).rest))
