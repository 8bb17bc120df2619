-- What a shelf holds unsealed of the streams that items go to.
use Rattle.std.specs.Prelude.{◌≡◌, ℕ, ◌+◌, ◌<◌, ◌≤◌, max, List, [], ◌∷◌, drop, Option, None, Some}
use Rattle.cdr_file.specs.CdrFile.{header_length, run_octets}
use Rattle.cdr_shelf.specs.Files.{SealedFile, UnsealedFile, greatest_in}
use Rattle.cdr_shelf.specs.declared.file_name.FileName.{FileName}
use Rattle.file_rotate.specs.Items.{Filed}
use Rattle.gw_base.specs.declared.item.Item.{Item}
use Rattle.file_writer.specs.Files.{run_records}
use Rattle.file_writer.specs.Streams.{Settings, closed_of, stream_count, stream_division}

-- The file of an open run: it has this name, and the run's records behind its header. Where no run is open there is
-- none.
abbrev pub IsOpenFile : FileName → List (Filed (List ℕ)) → Option UnsealedFile → Type 0
IsOpenFile name [] u = u ≡ None
IsOpenFile name (first ∷ later) None = ⊥
IsOpenFile name (first ∷ later) (Some f) =
    (f.name ≡ name) × (drop (header_length first.kind) f.octets ≡ run_octets (run_records (first ∷ later)))

-- the unsealed file of a stream, of which so many files were closed before the first item, is the one that items leave
-- open
abbrev pub IsOpenFileOf : Settings → (ℕ → ℕ) → List Item → ℕ → Option UnsealedFile → Type 0
IsOpenFileOf settings closed items s u =
    IsOpenFile (record { stream = s; sequence = closed s + closed_of settings s items + 1 })
    (stream_division settings s items).left_open u

-- The unsealed files are the files that items leave open, and there are no others.
pub record AreOpenFiles (settings : Settings) (closed : ℕ → ℕ) (items : List Item) (unsealed : ℕ → Option UnsealedFile)
    : Type 0 where
  pub each : (s : ℕ) → s < stream_count → IsOpenFileOf settings closed items s (unsealed s)
  pub beyond : (s : ℕ) → stream_count ≤ s → unsealed s ≡ None

-- one where a run is open
abbrev pub count_open : List (Filed (List ℕ)) → ℕ
count_open [] = 0
count_open (first ∷ later) = 1

-- how many files of a stream are closed or open
abbrev pub begun_of : Settings → ℕ → List Item → ℕ
begun_of settings s items = closed_of settings s items + count_open (stream_division settings s items).left_open

-- A stream of which so many files are sealed has nothing unsealed, and nothing is unsealed beyond the streams.
pub record AreShut (most : ℕ → ℕ) (files : List SealedFile) (unsealed : ℕ → Option UnsealedFile) : Type 0 where
  pub each : (s : ℕ) → s < stream_count → most s ≤ greatest_in s files → unsealed s ≡ None
  pub beyond : (s : ℕ) → stream_count ≤ s → unsealed s ≡ None

-- how many files of each stream are begun, those before the first item included
abbrev pub begun_after : Settings → (ℕ → ℕ) → List Item → ℕ → ℕ
begun_after settings closed items s = closed s + begun_of settings s items

-- these are at most so many
abbrev pub AreAmong : Settings → (ℕ → ℕ) → List Item → (ℕ → ℕ) → Type 0
AreAmong settings closed items most = (s : ℕ) → s < stream_count → begun_after settings closed items s ≤ most s

-- What calls for items leave unsealed that come in after others. Of a stream of which they wrote a file, one that was
-- neither closed before nor sealed, it is the file that is open then; all else stays as it was.
pub record LeavesUnsealed (settings : Settings) (closed sealed : ℕ → ℕ) (before after : List Item)
    (old new : ℕ → Option UnsealedFile) : Type 0 where
  pub wrote : (s : ℕ) → s < stream_count →
      max (closed s + closed_of settings s before) (sealed s) < closed s + begun_of settings s after →
      IsOpenFileOf settings closed after s (new s)
  pub stays : (s : ℕ) → s < stream_count →
      closed s + begun_of settings s after ≤ max (closed s + closed_of settings s before) (sealed s) → new s ≡ old s
  pub beyond : (s : ℕ) → stream_count ≤ s → new s ≡ old s
