-- A book as a value that many use in turn, and what each call owes and adds as a turn.
use Rattle.std.specs.Prelude.{ℕ, ◌&&◌, if◌then◌else◌, Bool, true, false, List, [], ◌∷◌, Option, Some, None}
use Rattle.area_disk.specs.declared.area.Area.{Ghosts}
use Rattle.cgf_journal.specs.Trail as trail
use Rattle.gw_base.specs.Facts.{Facts, WhereTold}
use Rattle.gw_base.specs.Owes.{Adds, Owes}
use Rattle.gw_base.specs.declared.history.Caller.{Caller}
use Rattle.gw_base.specs.declared.history.HistoryAct.{HistoryAct}
use Rattle.gw_base.specs.declared.history.HistoryEntry.{HistoryEntry}
use Rattle.gateway_answer.specs.Answered.{entry_by}
use Rattle.gateway_book.specs.Book.{area_of, fortune_of, header_of, length_of, size_of, value_of}
use Rattle.gateway_answer.specs.Marks.{Mark, Makes, NoRoom, NotDue}
use Rattle.gateway_answer.specs.Value.{BookValue, Fortune, Gone, Refused, Reopening, Whole, history_of, torn_of}
use Rattle.gateway_book.specs.declared.book.Book.{Book}

-- whether the lists of a book on such an area are told
abbrev pub tells_lists : {A : Type 0} → Ghosts A → Bool
tells_lists tells = tells.tells_octets && tells.tells_crash

abbrev pub facts_of : {A : Type 0} {tells : Ghosts A} → Book A tells → Facts
facts_of {tells = tells} book = record {
  size = size_of book;
  name = header_of book;
  faults = tells.faults (area_of book);
  cuts = book.cuts;
  entries = trail.length_of book.trail;
  length = length_of book;
  list = history_of (value_of book);
  firm = (value_of book).firm;
  torn = torn_of (value_of book);
}

-- whether an opening again dropped the torn entries
abbrev pub is_gone : Reopening → Bool
is_gone Whole = false
is_gone Gone = true
is_gone Refused = false

abbrev pub drops_of : Fortune → BookValue → Bool
drops_of f v = v.is_broken && is_gone f.reopening

-- what is added to a book that is ready, where an act is recorded
abbrev pub added_to : BookValue → ℕ → Caller → Option HistoryAct → List HistoryEntry
added_to ready now who None = []
added_to ready now who (Some act) = entry_by (history_of ready) now who act ∷ []

-- the act of a mark that is made
abbrev pub act_marked : Mark → Option HistoryAct
act_marked NotDue = None
act_marked NoRoom = None
act_marked (Makes act) = Some act

-- the same of a book that is ready: one that is broken then makes none
abbrev pub act_in : BookValue → Mark → Option HistoryAct
act_in ready mark = if ready.is_broken then None else act_marked mark

-- The call was a turn of this session, or of none, and added these entries.
pub record IsTurn {A : Type 0} {tells : Ghosts A} (old new : Book A tells) (session : Option ℕ)
    (added : List HistoryEntry) : Type 0 where
  pub owes : Owes (tells_lists tells) (facts_of old) (facts_of new)
  pub adds : WhereTold (tells_lists tells)
      (Adds session (facts_of old) (facts_of new) (drops_of (fortune_of old new) (value_of old)) added)
