-- Files on a shelf: those that are sealed, and those that are being written.
use Rattle.std.specs.Prelude.{◌≢◌, ℕ, max, Bool, ◌&&◌, ◌==◌, if◌then◌else◌, List, [], ◌∷◌, All, Option, None, Some, filter}
use Rattle.cdr_shelf.specs.declared.file_name.FileName.{FileName}

-- a sealed file
pub record SealedFile : Type 0 where
  pub name : FileName
  pub octets : List ℕ

-- the sealed file with this name and these octets
abbrev pub file_of : FileName → List ℕ → SealedFile
file_of name octets = record { name = name; octets = octets }

-- a file that was begun and isn't sealed
pub record UnsealedFile : Type 0 where
  pub name : FileName
  pub octets : List ℕ
  -- whether a sync succeeded since the last write
  pub is_synced : Bool

-- the unsealed file of a stream, where it has one
abbrev pub Unsealed : Type 0
Unsealed = Option UnsealedFile

-- none of these files has this name
abbrev pub IsFresh : FileName → List SealedFile → Type 0
IsFresh name files = All (λ f. f.name ≢ name) files

-- the sequence number of a name of this stream, and 0 of another
abbrev pub number_in : ℕ → FileName → ℕ
number_in stream name = if name.stream == stream then name.sequence else 0

-- the greatest sequence number of this stream among these files; 0 where it has none
abbrev pub greatest_in : ℕ → List SealedFile → ℕ
greatest_in stream [] = 0
greatest_in stream (f ∷ files) = max (number_in stream f.name) (greatest_in stream files)

-- the files of this stream, in order of sealing
abbrev pub in_stream : ℕ → List SealedFile → List SealedFile
in_stream stream files = filter (λ f. f.name.stream == stream) files

abbrev pub same_name : FileName → FileName → Bool
same_name a b = a.stream == b.stream && a.sequence == b.sequence

-- the octets of the first of these files that has this name
abbrev pub file_named : FileName → List SealedFile → Option (List ℕ)
file_named name [] = None
file_named name (f ∷ files) = if same_name f.name name then Some f.octets else file_named name files

-- The file that a seal of this one makes stand: none where it wasn't synced since the last write.
abbrev pub sealed_as : Unsealed → List SealedFile
sealed_as None = []
sealed_as (Some f) = if f.is_synced then record { name = f.name; octets = f.octets } ∷ [] else []
