-- Streams of which all files are sealed have nothing unsealed, and calls of a shelf that tells its plan keep it so,
-- whatever comes of them.
use Rattle.std.specs.Prelude.{◌≡◌, ℕ, ◌≤◌, IsTrue, None}
use Rattle.cdr_shelf.specs.Files.{greatest_in}
use Rattle.cdr_shelf.specs.declared.shelf.Shelf.{Ghosts}

-- Of each stream so many files may be begun. A stream of which all these are sealed has nothing unsealed.
abbrev pub IsShut : {A : Type 0} → Ghosts A → (ℕ → ℕ) → A → Type 0
IsShut tells most shelf = (s : ℕ) → most s ≤ greatest_in s (tells.files shelf) → tells.unsealed shelf s ≡ None

-- it stays so, where no file is begun
abbrev pub StaysShut : {A : Type 0} → Ghosts A → A → A → Type 0
StaysShut tells old new =
    IsTrue tells.tells_files → IsTrue tells.tells_plan → (most : ℕ → ℕ) → IsShut tells most old → IsShut tells most new

-- it stays so, where of a stream the file with this number may be begun, and no other
abbrev pub BeginsShut : {A : Type 0} → Ghosts A → ℕ → ℕ → A → A → Type 0
BeginsShut tells s sequence old new =
    IsTrue tells.tells_files → IsTrue tells.tells_plan → (most : ℕ → ℕ) → sequence ≤ most s → IsShut tells most old
    → IsShut tells most new
