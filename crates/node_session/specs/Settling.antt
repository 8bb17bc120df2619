-- How a gateway ends: its history is made firm and closed, and its writer is given all items.
use Rattle.std.specs.Prelude.{◌≡◌, ℕ, ◌<◌, ◌≤◌, ◌^◌, Bool, true, false, List, [], ◌++◌, length, Result, Err}
use Rattle.area_disk.specs.Disk.{Rose}
use Rattle.area_disk.specs.declared.area.Area.{Ghosts}
use Rattle.cdr_shelf.specs.declared.shelf.Shelf as shelf
use Rattle.gate_journal.specs.Moments.{Told}
use Rattle.cgf_journal.specs.Trail.{is_closed}
use Rattle.gw_base.specs.Facts.{WhereTold}
use Rattle.gw_base.specs.Owes.{base}
use Rattle.gw_base.specs.declared.history.Caller.{Caller}
use Rattle.gw_base.specs.declared.history.HistoryEntry.{HistoryEntry}
use Rattle.gateway_answer.specs.Answered.{with_act}
use Rattle.gateway_book.specs.Book.{area_of, size_of, value_of}
use Rattle.gateway_book.specs.Calls.{counts_of}
use Rattle.gateway_answer.specs.Items.{items_of}
use Rattle.gateway_answer.specs.Marks.{close_mark}
use Rattle.gateway_book.specs.Counted.{AreCounted}
use Rattle.gateway_book.specs.Turning.{act_marked, facts_of}
use Rattle.gateway_answer.specs.Value.{history_of}
use Rattle.gateway_book.specs.declared.book.Book.{Book}
use Rattle.gateway_book.specs.declared.outcome.Counts.{Counts}
use Rattle.file_writer.specs.Writer.{IsAt, is_broken, shelf_of, taken_of}
use Rattle.file_writer.specs.declared.writer.Writer.{Writer}
use Rattle.node_session.specs.Writing.{none_closed}
use Rattle.node_session.specs.declared.settling.SettleFault.{SettleFault}
use Rattle.node_session.specs.declared.settling.SettleFault.TheVariants as fault

-- a history, with a Close behind it where one is due
abbrev pub closed_behind : List HistoryEntry → ℕ → Caller → List HistoryEntry
closed_behind h now who = with_act h now who (act_marked (close_mark h))

module _ {A : Type 0} {tells : Ghosts A} (old new : Book A tells) where
  -- The firm part only grows.
  abbrev pub Grows : Type 0
  Grows = Told tells → (rest : List HistoryEntry) × ((value_of new).firm ≡ (value_of old).firm ++ rest)

  -- The history was made firm: that of before, with the torn entries of a broken book taken in or dropped.
  pub record HasFirmed : Type 0 where
    pub drops : Bool
    pub whole : is_closed old.trail ≡ false → drops ≡ false
    pub firm : Told tells → (value_of new).firm ≡ base drops (facts_of old)
    pub none_waits : Told tells → (value_of new).rest ≡ []
    pub goes_on : is_closed new.trail ≡ false

  module _ (now : ℕ) (who : Caller) where
    -- A Close was made where one was due.
    pub record HasClosed : Type 0 where
      pub history : Told tells → history_of (value_of new) ≡ closed_behind (history_of (value_of old)) now who
      pub goes_on : is_closed new.trail ≡ false

    -- The history is that of before, with the torn entries of a broken book taken in or dropped, and a Close behind it
    -- where one was due; all of it is firm.
    pub record IsSettled : Type 0 where
      pub drops : Bool
      pub whole : is_closed old.trail ≡ false → drops ≡ false
      pub firm : Told tells → (value_of new).firm ≡ closed_behind (base drops (facts_of old)) now who
      pub none_waits : Told tells → (value_of new).rest ≡ []
      pub goes_on : is_closed new.trail ≡ false

    -- It is so, and these are its counts.
    pub record HasSettled (counts : Counts) : Type 0 where
      pub settled : IsSettled
      pub told : Told tells → counts ≡ counts_of (value_of new) (size_of new)
      pub counted : AreCounted new counts

-- The writer isn't broken, and has taken all items of this history.
pub record HasTakenAll {F : Type 0} {tells : shelf.Ghosts F} (h : List HistoryEntry) (writer : Writer F tells)
    : Type 0 where
  pub ready : is_broken writer ≡ false
  pub at : IsAt writer none_closed (items_of h)
  pub count : taken_of writer ≡ length (items_of h)

-- A writer was given some items of a history: where there may be more, it has taken some, and else it has taken all.
pub record HasGivenSome {F : Type 0} {tells : shelf.Ghosts F} (told : Bool) (h : List HistoryEntry)
    (old new : Writer F tells) (more : Bool) : Type 0 where
  pub ready : is_broken new ≡ false
  pub moves : more ≡ true → (taken_of old < taken_of new) × (taken_of new < 2 ^ 31)
  pub all : more ≡ false → WhereTold told (HasTakenAll h new)

-- No count of faults falls; where the area or the shelf is said to have failed, its count rose.
pub record TellsFaults {A X : Type 0} {F : Type 0} {tells : Ghosts A} {files : shelf.Ghosts F} (old new : Book A tells)
    (before now : Writer F files) (result : Result X SettleFault) : Type 0 where
  pub later : tells.faults (area_of old) ≤ tells.faults (area_of new)
  pub shelf_later : files.faults (shelf_of before) ≤ files.faults (shelf_of now)
  pub area : result ≡ Err fault.Area → Rose (tells.faults (area_of old)) (tells.faults (area_of new))
  pub shelf : result ≡ Err fault.Shelf → Rose (files.faults (shelf_of before)) (files.faults (shelf_of now))
