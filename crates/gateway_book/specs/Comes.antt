-- What the calls of a book ask of the device, and what comes of that by a plan that arms one call of the device.
use Rattle.std.specs.Prelude.{◌≡◌, ◌⊎◌, ℕ, IsTrue, true, false, ◌&&◌, if◌then◌else◌, List, [], ◌∷◌, ◌++◌}
use Rattle.area_disk.specs.Armed.{Armed, IsArmed, calls_under}
use Rattle.area_disk.specs.Course.{Course, IsTied}
use Rattle.area_disk.specs.Disk.{counted}
use Rattle.area_disk.specs.declared.area.Area.{Ghosts}
use Rattle.area_disk.specs.declared.plan.Outcome3.{Outcome3}
use Rattle.area_disk.specs.declared.plan.Outcome3.TheVariants.{New}
use Rattle.gate_journal.specs.Moments.{RoseUpTo, Told}
use Rattle.cgf_journal.specs.Comes as trail
use Rattle.cgf_journal.specs.Trail.{is_closed, stop_stands, torn_stands}
use Rattle.gw_base.specs.declared.history.HistoryEntry.{HistoryEntry}
use Rattle.gateway_book.specs.Book.{area_of, header_of, value_of}
use Rattle.gateway_book.specs.Opened.{StandsFitFor}
use Rattle.gateway_answer.specs.Value.{BookValue, is_batch_full}
use Rattle.gateway_book.specs.declared.book.Book.{Book}

-- what a call of a book asks of the device: nothing, a commit, or that the journal is opened again
pub data Asked : Type 0 where
  AsksNothing : Asked
  AsksCommit : Asked
  AsksReopening : Asked

-- a commit of these entries, where there is one
abbrev pub asked_with : List HistoryEntry → Asked
asked_with [] = AsksNothing
asked_with (e ∷ rest) = AsksCommit

-- what a commit of the book asks: a broken one is opened again, and where nothing waits the device isn't asked
abbrev pub asked_to_commit : BookValue → Asked
asked_to_commit v = if v.is_broken then AsksReopening else asked_with v.rest

-- what comes before a datagram is answered, or a mark is made: a broken book is opened again, and one whose batch is
-- full commits
abbrev pub asked_to_ready : BookValue → Asked
asked_to_ready v = if v.is_broken then AsksReopening else (if is_batch_full v then AsksCommit else AsksNothing)

-- what is planned for the calls of the device
abbrev pub plan_of : {A : Type 0} {tells : Ghosts A} → Book A tells → Course
plan_of book = trail.plan_of book.trail

-- the history that a stop with this outcome leaves that comes now: the firm entries, and the torn ones of a broken book
-- where they stand then
abbrev pub left_by_stop : {A : Type 0} {tells : Ghosts A} → Outcome3 → Book A tells → List HistoryEntry
left_by_stop outcome book =
    if is_closed book.trail && stop_stands outcome book.trail then (value_of book).firm ++ (value_of book).rest else (value_of book).firm

module _ {A : Type 0} {tells : Ghosts A} (old new : Book A tells) where
  -- A commit makes four counted calls, or those up to the one that failed, where the book is broken then. They come out
  -- as was armed for them.
  pub record CommitsAsPlanned : Type 0 where
    pub calls : IsTrue tells.tells_calls → is_closed new.trail ≡ false → tells.calls (area_of new) ≡ counted 4 (tells.calls (area_of old))
    pub calls_broken : IsTrue tells.tells_calls → is_closed new.trail ≡ true → RoseUpTo 4 (tells.calls (area_of old)) (tells.calls (area_of new))
    pub comes : IsTrue tells.tells_fate → Told tells → (a : Armed) → IsTied a (plan_of old) → trail.CommitComes new.trail (is_closed new.trail) (calls_under a 4)

  -- An opening again makes one counted call, which comes out as was armed for it. It finds the torn entries as a stop
  -- would leave them that kept what was written.
  pub record ReopensAsPlanned : Type 0 where
    pub calls : IsTrue tells.tells_calls → tells.calls (area_of new) ≡ counted 1 (tells.calls (area_of old))
    pub finds : IsTrue tells.tells_fate → torn_stands old.trail ≡ stop_stands New old.trail
    pub comes : IsTrue tells.tells_fate → (a : Armed) → IsArmed a (plan_of old).schedule → trail.ReopenComes old.trail new.trail (is_closed new.trail) (calls_under a 1)

  -- A call that asked this of the device made no other counted call. Where it asked nothing, the area is as before, and
  -- what was planned stays planned.
  abbrev pub AsPlanned : Asked → Type 0
  AsPlanned AsksNothing = area_of new ≡ area_of old
  AsPlanned AsksCommit = CommitsAsPlanned
  AsPlanned AsksReopening = ReopensAsPlanned

-- What the area of a book stands for that is handed back: after a crash, of a book that goes on and of any, after a
-- stop, and by a read. All entries are fit.
pub record LeavesFit {A : Type 0} {tells : Ghosts A} (book : Book A tells) : Type 0 where
  pub whole : Told tells → is_closed book.trail ≡ false → (c : List ℕ) → tells.may_leave (area_of book) c → StandsFitFor (header_of book) c (value_of book).firm
  pub any : Told tells → (c : List ℕ) → tells.may_leave (area_of book) c →
      StandsFitFor (header_of book) c (value_of book).firm ⊎ StandsFitFor (header_of book) c ((value_of book).firm ++ (value_of book).rest)
  pub stop : IsTrue tells.tells_fate → Told tells → (outcome : Outcome3) → StandsFitFor (header_of book) ((tells.fate (area_of book)).leaves outcome) (left_by_stop outcome book)
  pub reads : IsTrue tells.tells_fate → Told tells → StandsFitFor (header_of book) (tells.octets (area_of book)) (left_by_stop New book)
