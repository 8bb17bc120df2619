-- What a shelf has of the history of a gateway that served, however that ends.
use Rattle.std.specs.Prelude.{ℕ, IsTrue, List}
use Rattle.area_disk.specs.declared.area.Area as areas
use Rattle.cdr_shelf.specs.declared.shelf.Shelf as shelves
use Rattle.gate_journal.specs.Moments.{Told}
use Rattle.gateway_book.specs.Opened.{StandsOrStarts}
use Rattle.gw_base.specs.Owes.{Begins}
use Rattle.gw_base.specs.declared.history.HistoryEntry.{HistoryEntry}
use Rattle.replay_gateway.specs.Setup.{Setup}
use Rattle.cgf_service.specs.Served.{HasFirstFiles, HoldsHistory, files_at, header_at}
use Rattle.cgf_service.specs.declared.serving.Serving.{Serving}

module _ {A F : Type 0} (tells : areas.Ghosts A) (files : shelves.Ghosts F) (of : Serving) (setup : Setup) (area : A)
    (shelf' : F) where
  -- These octets stand for a history that begins with this one, or start, where it has no entry; and the shelf has the
  -- first ones of the files that it closes, and no others.
  pub record IsFiledIn (start : List HistoryEntry) (octets : List ℕ) : Type 0 where
    pub history : List HistoryEntry
    pub stands : StandsOrStarts (header_at tells area of.ip) octets history
    pub begins : Begins start history
    pub filed : HasFirstFiles (files_at of setup) history (files.files shelf')

module _ {A F : Type 0} (tells : areas.Ghosts A) (files : shelves.Ghosts F) (of : Serving) (setup : Setup)
    (area area' : A) (shelf shelf' : F) where
  -- Where the shelf had the first ones of the files of the history that the area held, it has those of one that goes on
  -- in the area that is handed back, and in what any crash leaves of it.
  abbrev pub KeepsShelf : Type 0
  KeepsShelf = Told tells → IsTrue files.tells_files → (start : List HistoryEntry)
      → HoldsHistory tells (header_at tells area of.ip) area start
      → HasFirstFiles (files_at of setup) start (files.files shelf)
      → IsFiledIn tells files of setup area shelf' start (tells.octets area')
      × ((c : List ℕ) → tells.may_leave area' c → IsFiledIn tells files of setup area shelf' start c)
