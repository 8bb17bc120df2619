-- Marks on sequence numbers, by which a number that was found already is known without a search: a step of the code.
use Rattle.std.specs.Prelude.{◌≡◌, ℕ, ◌<◌, ◌==◌, Bool, false, List, length, slice_index_or, Option}
use Rattle.std.specs.List.{list_any}
use Rattle.gw_base.specs.Nearest.{nearest}

-- how many sequence numbers there are
abbrev pub wire_numbers : ℕ
wire_numbers = 65536

-- no sequence number is marked
pub record AreClear (marks : List Bool) : Type 0 where
  pub size : length marks ≡ wire_numbers
  pub clear : (w : ℕ) → w < wire_numbers → slice_index_or marks w false ≡ false

-- each sequence number is marked just where the number that it means was found
pub record AreMarked (top : Option ℕ) (marks : List Bool) (found : List ℕ) : Type 0 where
  pub size : length marks ≡ wire_numbers
  pub marked : (w : ℕ) → w < wire_numbers → slice_index_or marks w false ≡ list_any (λ y. y == nearest top w) found
