-- What a writer's calls leave.
use Rattle.std.specs.Prelude.{◌≡◌, ℕ, ◌+◌, ◌-◌, ◌<◌, ◌≤◌, max, IsTrue, List, [], ◌++◌, length, take, Result, OnOk}
use Rattle.cdr_shelf.specs.Files.{SealedFile, greatest_in, in_stream}
use Rattle.cdr_shelf.specs.declared.shelf.Shelf.{Ghosts}
use Rattle.gw_base.specs.declared.item.Item.{Item}
use Rattle.file_writer.specs.Calls.{Call, calls_of, seals}
use Rattle.file_writer.specs.Holding.{HoldsOf, IsBegun}
use Rattle.file_writer.specs.Leaving.{AreAmong, AreShut, LeavesUnsealed}
use Rattle.file_writer.specs.Making.{Makes, ending_of}
use Rattle.file_writer.specs.Streams.{closed_of, stream_count}
use Rattle.file_writer.specs.Writer.{Holds, IsAt, first_of, sealed_in, settings_in, shelf_of, taken_of}
use Rattle.file_writer.specs.declared.fault.ShelfFault.{ShelfFault}
use Rattle.file_writer.specs.declared.writer.Writer.{Writer}

-- A writer begins items anew at one with a number, before which so many files were closed of each stream.
pub record HasRecovered {A : Type 0} (tells : Ghosts A) (closed : ℕ → ℕ) (item : ℕ) (old new : Writer A tells)
    : Type 0 where
  pub at : IsAt new closed []
  pub first : first_of new ≡ item
  pub taken : taken_of new ≡ 0
  pub sealed : IsTrue tells.tells_files → (s : ℕ) → s < stream_count
      → sealed_in new s ≡ greatest_in s (tells.files (shelf_of new))
  -- where the first files of those that some items are divided into stand, however many, it holds them
  pub holds : IsTrue tells.tells_files → (stood : ℕ → List SealedFile) (all : List Item)
      → ((s : ℕ) → s < stream_count → greatest_in s (stood s) ≤ closed s)
      → IsBegun (settings_in new) closed stood all (tells.files (shelf_of new)) → Holds new closed stood all []

module _ {A : Type 0} (tells : Ghosts A) (closed : ℕ → ℕ) (before items : List Item) (old new : Writer A tells) where
  -- the calls for the items
  abbrev pub calls : List Call
  calls = calls_of (settings_in old) closed (sealed_in old) before items

  -- How many files of a stream are sealed after so many of the calls: those that were closed or sealed before, and
  -- those that these calls seal.
  abbrev pub sealed_after : ℕ → ℕ → ℕ
  sealed_after k s =
      max (sealed_in old s) (closed s + closed_of (settings_in old) s before) - closed s
      + length (in_stream s (seals (take k calls)))

  -- a stream of which so many files are sealed has nothing unsealed on a writer's shelf
  abbrev pub ShutIn : (ℕ → ℕ) → Writer A tells → Type 0
  ShutIn most w = AreShut most (tells.files (shelf_of w)) (tells.unsealed (shelf_of w))

  -- After any number of calls each stream's sealed files are the first ones of those that all items are divided into.
  pub record KeepsFiles (stood : ℕ → List SealedFile) (all : List Item) : Type 0 where
    pub at_any_moment : (k s : ℕ) → s < stream_count
        → HoldsOf (settings_in old) closed stood all (tells.files (shelf_of old) ++ seals (take k calls)) s
        (sealed_after k s)
    pub now : (k : ℕ) × (tells.files (shelf_of new) ≡ tells.files (shelf_of old) ++ seals (take k calls))

  -- A writer that took these items takes others: by their calls, and where they all ran it has taken them, and each
  -- file that is closed stands.
  pub record Advances (result : Result ℕ ShelfFault) : Type 0 where
    pub makes : Makes tells calls (ending_of result) (shelf_of old) (shelf_of new)
    pub at : OnOk result (IsAt new closed (before ++ items))
    pub sealed : OnOk result ((s : ℕ) → s < stream_count → sealed_in new s ≡ sealed_in old s)
    pub leaves : IsTrue tells.tells_files → OnOk result
        (LeavesUnsealed (settings_in old) closed (sealed_in old) before (before ++ items)
        (tells.unsealed (shelf_of old)) (tells.unsealed (shelf_of new)))
    -- Whatever came of the calls, they leave nothing unsealed of a stream of which all files are sealed.
    pub shut : IsTrue tells.tells_files → IsTrue tells.tells_plan → (most : ℕ → ℕ)
        → AreAmong (settings_in old) closed (before ++ items) most → ShutIn most old → ShutIn most new
    pub keeps : IsTrue tells.tells_files → (stood : ℕ → List SealedFile) (rest : List Item)
        → Holds old closed stood ((before ++ items) ++ rest) before
        → KeepsFiles stood ((before ++ items) ++ rest)
    pub holds : IsTrue tells.tells_files → (stood : ℕ → List SealedFile) (rest : List Item)
        → Holds old closed stood ((before ++ items) ++ rest) before
        → OnOk result (Holds new closed stood ((before ++ items) ++ rest) (before ++ items))
