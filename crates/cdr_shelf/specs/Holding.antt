-- What a shelf in memory holds, as contracts see it.
use Rattle.std.specs.Prelude.{ℕ, List, None, Some, get_or}
use Rattle.cdr_shelf.specs.Files.{SealedFile, Unsealed}

-- the sealed files in order of sealing, and the unsealed file of each stream in the place with its number
pub record Holding : Type 0 where
  pub files : List SealedFile
  pub places : List Unsealed

-- the unsealed file of a stream
abbrev pub unsealed_in : Holding → ℕ → Unsealed
unsealed_in holding stream = get_or holding.places stream None

-- how many files a place holds
abbrev pub is_there : Unsealed → ℕ
is_there None = 0
is_there (Some f) = 1
