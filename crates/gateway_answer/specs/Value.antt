-- What a book stands for, and how it moves.
use Rattle.std.specs.Prelude.{ℕ, ◌-◌, nat_lt, Bool, true, false, if◌then◌else◌, List, [], ◌∷◌, ◌++◌, length, Option, Some, None}
use Rattle.area_disk.specs.Disk.{counted}
use Rattle.entry_codec.specs.Content.{spelled}
use Rattle.gate_journal.specs.Format.{longest_batch}
use Rattle.gw_base.specs.declared.history.Caller.{Caller}
use Rattle.gw_base.specs.declared.history.HistoryAct.{HistoryAct}
use Rattle.gw_base.specs.declared.history.HistoryAct.TheVariants.{Start}
use Rattle.gw_base.specs.declared.history.HistoryEntry.{HistoryEntry}
use Rattle.gateway_answer.specs.Answered.{entry_by, no_caller, room_for}

-- The firm part of the history; the entries behind it, which wait for a commit, or, of a broken book, are torn: nobody
-- knows whether the journal will be found to hold them; how many commits and openings again have failed; and whether
-- the book is broken, as it is from a commit that fails to an opening again that doesn't.
pub record BookValue : Type 0 where
  pub firm : List HistoryEntry
  pub rest : List HistoryEntry
  pub cuts : ℕ
  pub is_broken : Bool

-- the history: of a broken book it is the firm part
abbrev pub history_of : BookValue → List HistoryEntry
history_of v = if v.is_broken then v.firm else v.firm ++ v.rest

-- the torn entries
abbrev pub torn_of : BookValue → List HistoryEntry
torn_of v = if v.is_broken then v.rest else []

-- one more entry, which waits
abbrev pub recorded : BookValue → ℕ → Caller → HistoryAct → BookValue
recorded v now who act = record v { rest = v.rest ++ entry_by (history_of v) now who act ∷ [] }

-- the same where an act is recorded
abbrev pub recorded_if : BookValue → ℕ → Caller → Option HistoryAct → BookValue
recorded_if v now who None = v
recorded_if v now who (Some act) = recorded v now who act

-- Opening.

-- a book that stands for a history, all of it firm
abbrev pub standing_for : List HistoryEntry → BookValue
standing_for h = record { firm = h; rest = []; cuts = 0; is_broken = false }

-- with a Start where there is room for one; no session made it, and it bears the last entry's moment
abbrev pub started : ℕ → BookValue → BookValue
started size v = if room_for (history_of v) size Start then recorded v 0 no_caller Start else v

-- a book that was opened on an area of so many octets that stands for a history
abbrev pub opened : ℕ → List HistoryEntry → BookValue
opened size h = started size (standing_for h)

-- Commits and openings again.

-- a commit succeeds: the whole history is firm
abbrev pub committed : BookValue → BookValue
committed v = record v { firm = v.firm ++ v.rest; rest = [] }

-- a commit or an opening again fails: what waited is torn, and what was torn stays so
abbrev pub faulted : BookValue → BookValue
faulted v = record v { cuts = counted 1 v.cuts; is_broken = true }

-- what an opening again of a broken book finds: the torn entries whole, or that they are gone; or it fails
pub data Reopening : Type 0 where
  Whole : Reopening
  Gone : Reopening
  Refused : Reopening

-- the book after an opening again
abbrev pub reopened : BookValue → Reopening → BookValue
reopened v Whole = record v { firm = v.firm ++ v.rest; rest = []; is_broken = false }
reopened v Gone = record v { rest = []; is_broken = false }
reopened v Refused = faulted v

-- what the device does to a call: whether a commit fails, and what an opening again finds
pub record Fortune : Type 0 where
  pub fails : Bool
  pub reopening : Reopening

-- the book after a commit that the device is asked for
abbrev pub tried : Fortune → BookValue → BookValue
tried f v = if f.fails then faulted v else committed v

-- the octets of a batch that the answer to one more datagram may need
abbrev pub most_for_one : ℕ
most_for_one = 270000

-- fewer octets of the batch are free
abbrev pub is_batch_full : BookValue → Bool
is_batch_full v = nat_lt (longest_batch - length (spelled v.rest)) most_for_one

-- what comes before a datagram is answered, or a mark is made: a broken book is opened again, and one whose batch is
-- full commits. The call goes on where the book isn't broken then.
abbrev pub readied : Fortune → BookValue → BookValue
readied f v = if v.is_broken then reopened v f.reopening else (if is_batch_full v then tried f v else v)

-- a commit of these entries, where there is one
abbrev pub tried_with : Fortune → BookValue → List HistoryEntry → BookValue
tried_with f v [] = v
tried_with f v (e ∷ rest) = tried f v

-- the book after it was asked to commit: a broken one is opened again, and where nothing waits the device isn't asked
abbrev pub after_commit : Fortune → BookValue → BookValue
after_commit f v = if v.is_broken then reopened v f.reopening else tried_with f v v.rest
