-- What a stream of records is, and the limits under which its records are cut into CDR files.
use Rattle.std.specs.Prelude.{ℕ, ◌-◌, ◌^◌, ◌≤◌, ◌==◌, ◌&&◌, Bool, true, false, List, [], ◌∷◌, ◌++◌, Option, None, Some}
use Rattle.cdr_file.specs.declared.filed_kind.FiledKind.{FiledKind}
use Rattle.file_rotate.specs.declared.limits.Limits.{Limits}

-- the limits that a cutter takes
pub record AreLimits (limits : Limits) : Type 0 where
  pub size_from : 1 ≤ limits.size
  pub size_to : limits.size ≤ 2 ^ 32 - 2 ^ 17
  pub count_from : 1 ≤ limits.count

-- a record that goes into a file: its kind in the form of the file's profile, how many octets it has, the moment at
-- which it was filed, and whatever else it carries
pub record Filed (P : Type 0) : Type 0 where
  pub kind : FiledKind
  pub octets : ℕ
  pub moment : ℕ
  pub payload : P

-- what comes in one after the other: a record, a Tick that closes a file that has been open for long, or a Close that
-- closes each open file
pub data Item (P : Type 0) : Type 0 where
  Record : Filed P → Item P
  Tick : ℕ → Item P
  Close : ℕ → Item P

-- the record that an item is, if it is one
abbrev pub record_in : {P : Type 0} → Item P → List (Filed P)
record_in (Record filed) = filed ∷ []
record_in (Tick moment) = []
record_in (Close moment) = []

-- the records of a list of items, in order
abbrev pub records_of : {P : Type 0} → List (Item P) → List (Filed P)
records_of [] = []
records_of (item ∷ items) = record_in item ++ records_of items

-- whether two extensions are one, or neither is there
abbrev pub same_extension : Option ℕ → Option ℕ → Bool
same_extension None None = true
same_extension None (Some other) = false
same_extension (Some extension) None = false
same_extension (Some extension) (Some other) = extension == other

-- whether two kinds are one
abbrev pub same_kind : FiledKind → FiledKind → Bool
same_kind kind other =
    (kind.release == other.release)
    && ((kind.version == other.version)
    && ((kind.format == other.format) && same_extension kind.extension other.extension))
