-- What a gateway hands out: its area and its shelf.
use Rattle.std.specs.Prelude.{◌≡◌, ◌⊎◌, ℕ, Bool, true, false, List, ◌++◌, take, Some}
use Rattle.area_disk.specs.declared.memory.MemoryArea.{MemoryArea}
use Rattle.cdr_shelf.specs.declared.memory.MemoryShelf.{MemoryShelf}
use Rattle.file_writer.specs.Leaving.{AreOpenFiles}
use Rattle.gateway_answer.specs.Items.{items_of}
use Rattle.gateway_book.specs.Opened.{StandsFitFor}
use Rattle.gateway_book.specs.Up.{HoldsHistory}
use Rattle.gateway_answer.specs.Value.{history_of}
use Rattle.gw_base.specs.declared.history.HistoryEntry.{HistoryEntry}
use Rattle.once_core.specs.Gateway.{Gateway}
use Rattle.replay_gateway.specs.Machine.{Machine}
use Rattle.replay_gateway.specs.Setup.{Setup, files_in}
use Rattle.replay_gateway.specs.Standing.{area_tells, header_at}
use Rattle.replay_gateway.specs.Written.{AreSealed, shelf_tells}

-- the area of a gateway leaves this history: its whole one where it is down, else what is firm of it, or all of it
abbrev pub LeavesHistory : Bool → Gateway → List HistoryEntry → Type 0
LeavesHistory true g h = h ≡ history_of g.book
LeavesHistory false g h = (h ≡ g.book.firm) ⊎ (h ≡ g.book.firm ++ g.book.rest)

-- The area of a gateway, as long as the settings say, stands for its history, or, of one that isn't down, for the firm
-- entries and maybe those behind them. Of one that goes on a crash leaves the firm entries, whatever else it does to
-- the area.
pub record IsAreaOf (setup : Setup) (place : ℕ) (g : Gateway) (a : MemoryArea) : Type 0 where
  pub size : area_tells.size a ≡ setup.size
  pub history : List HistoryEntry
  pub holds : HoldsHistory area_tells (header_at setup place) history a
  pub kept : LeavesHistory g.is_down g history
  pub crash : g.is_down ≡ false → g.book.is_broken ≡ false → (octets : List ℕ) → area_tells.may_leave a octets →
      StandsFitFor (header_at setup place) octets g.book.firm

-- So does the area that is handed out. The sealed files of the shelf are those that were written, of each stream in its
-- order, and no others; and where the writer goes on its unsealed files are those that are open, with their records so
-- far.
pub record IsHandedOut (setup : Setup) (place : ℕ) (g : Gateway) (m : Machine) (a : MemoryArea) (s : MemoryShelf)
    : Type 0 where
  pub area : IsAreaOf setup place g a
  pub files : AreSealed (files_in setup place) (items_of g.book.firm) m.filing.sealed (shelf_tells.files s)
  pub unsealed : (n : ℕ) → m.filing.taken ≡ Some n →
      AreOpenFiles (files_in setup place) (λ s. 0) (take n (items_of g.book.firm)) (shelf_tells.unsealed s)
