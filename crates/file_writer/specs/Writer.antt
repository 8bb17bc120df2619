-- What callers see of a writer.
use Rattle.std.specs.Prelude.{ℕ, ◌+◌, ◌-◌, ◌<◌, max, Bool, List, map, slice_index}
use Rattle.cdr_shelf.specs.Files.{SealedFile}
use Rattle.cdr_shelf.specs.declared.shelf.Shelf.{Ghosts}
use Rattle.gw_base.specs.declared.item.Item.{Item}
use Rattle.file_writer.specs.AllStreams.{AllAt}
use Rattle.file_writer.specs.Holding.{HoldsOf}
use Rattle.file_writer.specs.Streams.{Settings, closed_of, stream_count}
use Rattle.file_writer.specs.Writing.{settings_of}
use Rattle.file_writer.specs.declared.writer.Writer.{Writer}

module _ {A : Type 0} {tells : Ghosts A} (writer : Writer A tells) where
  abbrev pub shelf_of : A
  shelf_of = writer.shelf

  abbrev pub is_broken : Bool
  is_broken = writer.is_broken

  abbrev pub settings_in : Settings
  settings_in = record {
    rules = writer.rules;
    limits = writer.limits;
    profile = writer.profile;
    file = settings_of writer.gateway;
  }

  -- how many items it has taken since it recovered, and the number of the first of them
  abbrev pub taken_of : ℕ
  taken_of = writer.taken

  abbrev pub first_of : ℕ
  first_of = writer.first

  -- up to which number the files of a stream were sealed when it recovered
  abbrev pub sealed_in : ℕ → ℕ
  sealed_in s = slice_index (map (λ stream. stream.file.sealed) writer.streams) s

  -- Of each stream so many files were closed before the first item, and these items were taken since.
  abbrev pub IsAt : (ℕ → ℕ) → List Item → Type 0
  IsAt closed items = AllAt tells settings_in closed sealed_in items writer.streams writer.shelf

  -- Of each stream stand the files that stood before, and those that these items close, or were sealed before, of the
  -- files that all items are divided into.
  abbrev pub Holds : (ℕ → ℕ) → (ℕ → List SealedFile) → List Item → List Item → Type 0
  Holds closed stood all items = (s : ℕ) → s < stream_count
      → HoldsOf settings_in closed stood all (tells.files shelf_of) s
      (max (sealed_in s) (closed s + closed_of settings_in s items) - closed s)
