-- What of a gateway's items its files have.
use Rattle.std.specs.Prelude.{◌≡◌, ℕ, ◌<◌, ◌≤◌, ◌^◌, true, false, List, length, take, Some}
use Rattle.area_disk.specs.Armed.{Came, IsArmed}
use Rattle.area_disk.specs.Armed.Came.{Ran, FailedAt, StoppedAt}
use Rattle.cdr_shelf.specs.Files.{SealedFile, in_stream}
use Rattle.cdr_shelf.specs.contracts.memory.MemoryShelfShelf.TheImpl.{ghosts as shelf_ghosts}
use Rattle.cdr_shelf.specs.declared.memory.MemoryShelf.{MemoryShelf}
use Rattle.cdr_shelf.specs.declared.shelf.Shelf as shelf
use Rattle.file_writer.specs.Files.{AreOfStreams, stream_files}
use Rattle.file_writer.specs.Leaving.{AreOpenFiles, AreShut, begun_after}
use Rattle.file_writer.specs.Streams.{Settings, closed_of, stream_count}
use Rattle.file_writer.specs.Writer as writer
use Rattle.file_writer.specs.declared.fault.ShelfFault.{ShelfFault}
use Rattle.file_writer.specs.declared.fault.ShelfFault.TheVariants.{Device}
use Rattle.file_writer.specs.declared.writer.Writer.{Writer}
use Rattle.gw_base.specs.declared.item.Item.{Item}
use Rattle.replay_gateway.specs.Filing.{filing_then, shelf_came}
use Rattle.replay_gateway.specs.Machine.{Filing, resting}
use Rattle.replay_gateway.specs.declared.files.Files.{Files}
use Rattle.replay_gateway.specs.declared.files.Wrote.{Wrote}
use Rattle.replay_gateway.specs.declared.files.Wrote.TheVariants as wrote

-- what a shelf in memory tells
abbrev pub shelf_tells : shelf.Ghosts MemoryShelf
shelf_tells = shelf_ghosts

-- Of each stream so many files are sealed, which are the first ones of those that these items close; and there are no
-- others.
pub record AreSealed (settings : Settings) (items : List Item) (sealed : ℕ → ℕ) (files : List SealedFile) : Type 0 where
  pub each : (s : ℕ) → s < stream_count → in_stream s files ≡ take (sealed s) (stream_files settings s items)
  pub most : (s : ℕ) → s < stream_count → sealed s ≤ closed_of settings s items
  pub only : AreOfStreams files

-- A writer has taken the first of these items, so many: each file that they close is sealed, and the files that they
-- leave open are unsealed.
pub record IsOn {A : Type 0} (tells : shelf.Ghosts A) (settings : Settings) (items : List Item) (sealed : ℕ → ℕ) (n : ℕ)
    (w : Writer A tells) : Type 0 where
  pub some : n ≤ length items
  pub closed : (s : ℕ) → s < stream_count → sealed s ≡ closed_of settings s (take n items)
  pub unsealed : AreOpenFiles settings (λ s. 0) (take n items) (tells.unsealed (writer.shelf_of w))

-- Of each stream whose files are all sealed, of those that items begin, nothing is unsealed.
abbrev pub NothingIsLeft : {A : Type 0} → shelf.Ghosts A → Settings → List Item → A → Type 0
NothingIsLeft tells settings items s =
    AreShut (begun_after settings (λ stream. 0) items) (tells.files s) (tells.unsealed s)

-- A writer's shelf has so many files of each stream sealed of these items, and nothing else.
pub record ShelfHolds {A : Type 0} (tells : shelf.Ghosts A) (settings : Settings) (sealed : ℕ → ℕ) (items : List Item)
    (w : Writer A tells) : Type 0 where
  pub settings_are : writer.settings_in w ≡ settings
  pub files : AreSealed settings items sealed (tells.files (writer.shelf_of w))
  pub shut : NothingIsLeft tells settings items (writer.shelf_of w)
  -- their numbers fit into a name
  pub numbered : (s : ℕ) → s < stream_count → sealed s < 4294967295

-- On a writer's shelf this is written of these items.
pub record WriterStands {A : Type 0} (tells : shelf.Ghosts A) (settings : Settings) (f : Filing) (items : List Item)
    (w : Writer A tells) : Type 0 where
  pub holds : ShelfHolds tells settings f.sealed items w
  pub is_armed : IsArmed f.armed (tells.plan (writer.shelf_of w))
  pub on : (n : ℕ) → f.taken ≡ Some n → IsOn tells settings items f.sealed n w

-- The writer has taken these items, and when it recovered no files were sealed but some of those that they close.
pub record HasTaken (settings : Settings) (items : List Item) (w : Writer MemoryShelf shelf_tells) : Type 0 where
  pub at : writer.IsAt w (λ s. 0) items
  pub sealed : (s : ℕ) → s < stream_count → writer.sealed_in w s ≤ closed_of settings s items

-- So it is of the writer of a gateway's files. Where it goes on it has taken the first items.
pub record FilesStand (settings : Settings) (f : Filing) (items : List Item) (r : Files) : Type 0 where
  pub writes : WriterStands shelf_tells settings f items r.writer
  pub taken : r.taken ≡ f.taken
  pub few : (n : ℕ) → f.taken ≡ Some n → n < 2 ^ 31
  pub goes_on : (n : ℕ) → f.taken ≡ Some n → HasTaken settings (take n items) r.writer

-- what is seen of what came of a write
abbrev pub wrote_by : Came → Wrote
wrote_by (Ran armed) = wrote.All
wrote_by (FailedAt call) = wrote.Failed
wrote_by (StoppedAt call outcome) = wrote.Stopped

-- All these items were to be written, and what was armed decided what came of it.
pub record HasWritten (settings : Settings) (items : List Item) (f : Filing) (ended : Wrote) (r : Files) : Type 0 where
  pub ends : ended ≡ wrote_by (shelf_came settings items f)
  pub stands : FilesStand settings (filing_then settings items f) items r

-- A write had this fault. A shelf that stopped runs again then, nothing is armed for it, and the writer has to recover.
pub record BreaksOff (fault : ShelfFault) (old : Files) (ended : Wrote) (new : Files) : Type 0 where
  pub cause : fault ≡ Device
  pub failed : (shelf_tells.plan (writer.shelf_of old.writer)).stopped ≡ false → (ended ≡ wrote.Failed) × (new ≡ old)
  pub stopped : (shelf_tells.plan (writer.shelf_of old.writer)).stopped ≡ true → ended ≡ wrote.Stopped
  pub rests : (settings : Settings) (sealed : ℕ → ℕ) (items : List Item) →
      (shelf_tells.plan (writer.shelf_of old.writer)).stopped ≡ true →
      ShelfHolds shelf_tells settings sealed items old.writer → FilesStand settings (resting sealed) items new
