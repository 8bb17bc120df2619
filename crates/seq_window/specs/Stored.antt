-- How a window is stored: a ring of cells, one for each number that it holds. Those behind the last one that was ever
-- set aren't stored: they are fresh. Public clauses cite `seen_of` alone.
use Rattle.std.specs.Prelude.{◌≡◌, ℕ, ◌+◌, ◌-◌, ◌^◌, ◌<◌, ◌≤◌, if◌then◌else◌, nat_le, nat_lt, List, [], length, slice_index_or, Option, Some, None}
use Rattle.gw_base.specs.declared.key_state.KeyState.{KeyState}
use Rattle.gw_base.specs.declared.key_state.KeyState.TheVariants.{Fresh}
use Rattle.seq_window.specs.Seen.{Seen, within}

-- the greatest number, where its cell is, and the cells that are stored
pub record Stored : Type 0 where
  pub top : Option ℕ
  pub at : ℕ
  pub cells : List KeyState

-- where the cell is of the number that is so far below the one whose cell is here, in a ring of so many cells
abbrev pub cell_below : ℕ → ℕ → ℕ → ℕ
cell_below count at below = if nat_le below at then at - below else at + count - below

-- what the cells say of a number
abbrev pub cell_state : ℕ → Option ℕ → ℕ → List KeyState → ℕ → KeyState
cell_state half None at cells n = Fresh
cell_state half (Some top) at cells n = slice_index_or cells (cell_below (half + 1) at (top - n)) Fresh

-- what a window knows
abbrev pub seen_of : ℕ → Stored → Seen
seen_of half stored = within half stored.top (cell_state half stored.top stored.at stored.cells)

-- a window with a greatest number has some of its cells, and one without has none
abbrev pub HasCells : ℕ → Option ℕ → ℕ → List KeyState → Type 0
HasCells half None at cells = cells ≡ []
HasCells half (Some top) at cells = (length cells ≤ half + 1) × (at < half + 1) × (top < 2 ^ 63)

-- The ring of so many cells took in so many numbers above the greatest one, whose cell is now at `new_at`.
pub record IsMovedUp (count by at new_at : ℕ) (old new : List KeyState) : Type 0 where
  pub length : length new ≡ length old
  pub inside : new_at < count
  pub cells : (below : ℕ) → below < count → slice_index_or new (cell_below count new_at below) Fresh ≡
      (if nat_lt below by then Fresh else slice_index_or old (cell_below count at (below - by)) Fresh)
