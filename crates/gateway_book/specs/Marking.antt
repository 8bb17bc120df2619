-- How an entry is added to a book.
use Rattle.std.specs.Prelude.{◌≡◌, ◌≢◌, ◌≤◌, ◌⊎◌, ◌++◌, ◌∷◌, []}
use Rattle.area_disk.specs.declared.area.Area.{Ghosts}
use Rattle.cgf_journal.specs.Outcomes.{FirmStays}
use Rattle.cgf_journal.specs.Trail.{length_of}
use Rattle.gw_base.specs.declared.history.HistoryAct.{HistoryAct}
use Rattle.gw_base.specs.declared.history.HistoryAct.TheVariants.{Tick, Close}
use Rattle.gw_base.specs.declared.history.HistoryEntry.{HistoryEntry}
use Rattle.gateway_book.specs.Caller.{IsMarkCounted}
use Rattle.gateway_answer.specs.Value.{BookValue}
use Rattle.gateway_book.specs.declared.book.Book.{Book}
use Rattle.gateway_book.specs.declared.outcome.Marked.{Marked}
use Rattle.gateway_book.specs.declared.outcome.Marked.TheVariants.{Device}

-- the value with one more entry, which waits
abbrev pub with_entry : BookValue → HistoryEntry → BookValue
with_entry v e = record v { rest = v.rest ++ e ∷ [] }

-- an act that closes files
abbrev pub IsMark : HistoryAct → Type 0
IsMark act = (act ≡ Tick) ⊎ (act ≡ Close)

-- The device isn't asked: what is firm stays, and no entry is lost.
pub record OnlyAdds {A : Type 0} {tells : Ghosts A} (old new : Book A tells) : Type 0 where
  pub stays : FirmStays old.trail new.trail
  pub entries : length_of old.trail ≤ length_of new.trail
  pub uncut : new.cuts ≡ old.cuts
  pub kept : new.kept ≡ old.kept

-- What is told of a mark then.
pub record IsQuiet {A : Type 0} {tells : Ghosts A} (new : Book A tells) (result : Marked) : Type 0 where
  pub never_device : result ≢ Device
  pub counts : IsMarkCounted new result
