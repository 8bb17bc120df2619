-- Batches before a place of an area, whatever stands at that place.
use Rattle.std.specs.Prelude.{◌≡◌, ℕ, ◌+◌, ◌<◌, List, ◌∷◌, ◌++◌, length, take, drop, All, Option, Some}
use Rattle.gate_journal.specs.Format.{IsSmall, end_of, header_length, length_at, spelled}

-- Behind the header these batches stand one after the other, up to this place, which lies in the area.
pub record AreBefore (header octets : List ℕ) (at : ℕ) (batches : List (List ℕ)) : Type 0 where
  pub front : take at octets ≡ header ++ spelled batches
  pub small : All IsSmall batches
  pub inside : at < length octets

-- the content behind the gate at this place, as long as its length says
abbrev pub batch_at : List ℕ → ℕ → List ℕ
batch_at octets at = take (length_at octets at) (drop (at + 5) octets)

-- of batches before this end, the one behind this gate is found
abbrev pub IsFoundBefore : List ℕ → ℕ → ℕ → Option (ℕ × ℕ) → Type 0
IsFoundBefore octets end gate found = (header : List ℕ) (some : List (List ℕ)) (batch : List ℕ) (more : List (List ℕ)) →
    length header ≡ header_length → AreBefore header octets end (some ++ batch ∷ more) → gate ≡ end_of some →
    found ≡ Some (gate + 5, length batch)

-- these octets are the n from this place on, where those are the content of one of the batches before some end
abbrev pub IsReadBefore : List ℕ → ℕ → ℕ → List ℕ → Type 0
IsReadBefore octets at n read =
    (header : List ℕ) (end : ℕ) (some : List (List ℕ)) (batch : List ℕ) (more : List (List ℕ)) →
    length header ≡ header_length → AreBefore header octets end (some ++ batch ∷ more) → at ≡ end_of some + 5 →
    n ≡ length batch → read ≡ batch
