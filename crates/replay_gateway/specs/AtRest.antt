-- A gateway in which nothing is left to be made firm or to be written, and what it hands out then.
use Rattle.std.specs.Prelude.{◌≡◌, ℕ, false, Contains, List, [], None}
use Rattle.area_disk.specs.Armed.Armed.{Nothing}
use Rattle.area_disk.specs.declared.memory.MemoryArea.{MemoryArea}
use Rattle.cdr_shelf.specs.declared.memory.MemoryShelf.{MemoryShelf}
use Rattle.file_writer.specs.Files.{AreFilesOf}
use Rattle.file_writer.specs.Places.{FilePlace}
use Rattle.file_writer.specs.Reading.{ReadsAt}
use Rattle.file_writer.specs.Streams.{Settings, stream_division, stream_record}
use Rattle.gateway_answer.specs.Items.{items_of}
use Rattle.gateway_book.specs.Opened.{StandsFitFor}
use Rattle.gateway_answer.specs.declared.filing.FiledRecord.{FiledRecord}
use Rattle.gw_base.specs.declared.history.HistoryEntry.{HistoryEntry}
use Rattle.gw_base.specs.declared.item.Item.{Item}
use Rattle.once_core.specs.FilePlaces.{placed}
use Rattle.once_core.specs.Gateway.{Gateway}
use Rattle.replay_gateway.specs.Filing.{all_filed}
use Rattle.replay_gateway.specs.Machine.{Machine}
use Rattle.replay_gateway.specs.Setup.{Setup, files_in}
use Rattle.replay_gateway.specs.Standing.{area_tells, header_at}
use Rattle.replay_gateway.specs.Written.{shelf_tells}

-- no record of these items stands in a file that is open, whatever decides the files
abbrev pub AreShut : List Item → Type 0
AreShut items = (settings : Settings) (s : ℕ) → (stream_division settings s items).left_open ≡ []

-- The gateway runs, and its journal is open; its whole history is firm, and all items of it were written; and the files
-- that these close, which are sealed, have all records.
pub record IsAllWritten (settings : Settings) (g : Gateway) (m : Machine) : Type 0 where
  pub runs : g.is_down ≡ false
  pub whole : g.book.is_broken ≡ false
  pub firm : g.book.rest ≡ []
  pub written : m.filing ≡ all_filed settings (items_of g.book.firm) Nothing
  pub shut : AreShut (items_of g.book.firm)

-- A gateway with its area and its shelf, with nothing left to do: it runs, its journal is open, and its whole history
-- is firm. The area, as long as the settings say, stands for that history, and a crash leaves it, whatever else it does
-- to the area. The sealed files of the shelf are those that the history's items are divided into, of each stream in
-- their order, and no others; they have all records, and no file is unsealed.
pub record IsAtRest (setup : Setup) (place : ℕ) (g : Gateway) (a : MemoryArea) (shelf : MemoryShelf) : Type 0 where
  pub runs : g.is_down ≡ false
  pub whole : g.book.is_broken ≡ false
  pub firm : g.book.rest ≡ []
  pub area : StandsFitFor (header_at setup place) (area_tells.octets a) g.book.firm
  pub size : area_tells.size a ≡ setup.size
  pub crash : (octets : List ℕ) → area_tells.may_leave a octets →
      StandsFitFor (header_at setup place) octets g.book.firm
  pub files : AreFilesOf (files_in setup place) (items_of g.book.firm) (shelf_tells.files shelf)
  pub shut : AreShut (items_of g.book.firm)
  pub sealed : (s : ℕ) → shelf_tells.unsealed shelf s ≡ None

-- What a history files is read where it stands: in the file of the place's name on the shelf, as `file_in` of
-- `cdr_file` reads it, it is the CDR with the place's index.
abbrev pub IsRead : Settings → List HistoryEntry → MemoryShelf → Type 0
IsRead settings h shelf =
    (place : FilePlace) (filing : FiledRecord) → Contains (placed settings h) (place, filing) →
    ReadsAt (shelf_tells.files shelf) place (stream_record settings.profile filing.kind filing.octets filing.moment)
