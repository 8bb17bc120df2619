-- What a shelf holds of the files that items are divided into.
use Rattle.std.specs.Prelude.{◌≡◌, ℕ, ◌+◌, ◌<◌, List, ◌++◌, take}
use Rattle.cdr_shelf.specs.Files.{SealedFile, in_stream}
use Rattle.gw_base.specs.declared.item.Item.{Item}
use Rattle.file_writer.specs.Files.{files_from}
use Rattle.file_writer.specs.Streams.{Settings, stream_count, stream_division}

-- the files of a stream, where so many were closed before the first item
abbrev pub files_after : Settings → (ℕ → ℕ) → ℕ → List Item → List SealedFile
files_after settings closed s all = files_from settings.file s (closed s + 1) (stream_division settings s all).closed

-- Of a stream stand the files that stood before, and so many of those that the items are divided into.
abbrev pub HoldsOf : Settings → (ℕ → ℕ) → (ℕ → List SealedFile) → List Item → List SealedFile → ℕ → ℕ → Type 0
HoldsOf settings closed before all sealed s n =
    in_stream s sealed ≡ before s ++ take n (files_after settings closed s all)

-- Of each stream stand the files that stood before, and the first ones of those that the items are divided into.
abbrev pub IsBegun : Settings → (ℕ → ℕ) → (ℕ → List SealedFile) → List Item → List SealedFile → Type 0
IsBegun settings closed before all sealed =
    (s : ℕ) → s < stream_count → (n : ℕ) × HoldsOf settings closed before all sealed s n
