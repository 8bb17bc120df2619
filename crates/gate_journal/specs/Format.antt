-- The journal's format: a header of 32 octets, and behind it batches, each behind a gate of one octet.
use Rattle.std.specs.Prelude.{◌≡◌, ◌≢◌, ◌⊎◌, ℕ, ◌+◌, ◌-◌, ◌≤◌, ◌<◌, List, [], ◌∷◌, ◌++◌, length, take, drop, replicate, codes, slice_index, slice_index_or, All}
use Rattle.byteorder.specs.Endian.{big_bytes, big_number}

-- a gate that holds this octet is open; one that holds any other is closed
abbrev pub open_gate : ℕ
open_gate = 0xA5

-- what a closed gate holds that the journal writes
abbrev pub closed_gate : ℕ
closed_gate = 0

-- the octets of the header
abbrev pub header_length : ℕ
header_length = 32

-- the fewest octets of an area, and the most
abbrev pub fewest_octets : ℕ
fewest_octets = 100

abbrev pub most_octets : ℕ
most_octets = 268435456

-- the most octets of a batch's content, and of its frame: the length, the content and the gate behind it
abbrev pub longest_batch : ℕ
longest_batch = 1048576

abbrev pub longest_frame : ℕ
longest_frame = 1048581

-- An area's header: the format's name, the area's length, the address of the gateway, the generation, and eight
-- octets 0.
unfoldable pub header : ℕ → ℕ → ℕ → List ℕ
header size address generation =
    codes "CGFJRNL1" ++ big_bytes 8 size ++ big_bytes 4 address ++ big_bytes 4 generation ++ replicate 8 0

-- what stands behind the gate of a batch: its length, its content and the next gate, closed
unfoldable pub frame : List ℕ → List ℕ
frame batch = big_bytes 4 (length batch) ++ batch ++ closed_gate ∷ []

-- batches behind open gates, one after the other
unfoldable pub spelled : List (List ℕ) → List ℕ
spelled [] = []
spelled (batch ∷ batches) = open_gate ∷ (big_bytes 4 (length batch) ++ batch ++ spelled batches)

-- the octets that batches take: the content of each, its gate and its length
abbrev pub taken : List (List ℕ) → ℕ
taken [] = 0
taken (batch ∷ batches) = length batch + 5 + taken batches

-- the place behind these batches, where the next gate stands
abbrev pub end_of : List (List ℕ) → ℕ
end_of batches = header_length + taken batches

-- what is left in an area of this length beside the header, these batches and the closed gate behind them
abbrev pub free_beside : ℕ → List (List ℕ) → ℕ
free_beside size batches = size - 33 - taken batches

-- the octet of the gate at this place; past the area's end it counts as open
abbrev pub gate_at : List ℕ → ℕ → ℕ
gate_at octets at = slice_index_or octets at open_gate

abbrev pub IsSmall : List ℕ → Type 0
IsSmall batch = length batch ≤ longest_batch

-- The octets stand for these batches: the header, the batches one after the other, and a closed gate behind them.
pub record Stands (header octets : List ℕ) (batches : List (List ℕ)) : Type 0 where
  pub front : take (end_of batches) octets ≡ header ++ spelled batches
  pub shut : gate_at octets (end_of batches) ≢ open_gate
  pub small : All IsSmall batches

-- The area was being made and has all of its header but octet 0.
pub record IsUnfinished (header octets : List ℕ) : Type 0 where
  pub rest : take 31 (drop 1 octets) ≡ drop 1 header
  pub first : slice_index octets 0 ≢ slice_index header 0

-- An opening makes the area anew: octet 0 is 0, or the area was being made.
abbrev pub Starts : List ℕ → List ℕ → Type 0
Starts header octets = (slice_index octets 0 ≡ 0) ⊎ IsUnfinished header octets

-- the length that stands behind the gate at this place
abbrev pub length_at : List ℕ → ℕ → ℕ
length_at octets at = big_number 4 (drop (at + 1) octets)

-- the batch behind the gate at this place is whole: it isn't too long, and the octet after it lies in the area
pub record IsWhole (octets : List ℕ) (at : ℕ) : Type 0 where
  pub short : length_at octets at ≤ longest_batch
  pub inside : at + 5 + length_at octets at < length octets

-- the first octet of the header that differs stands at this place
pub record Differs (header octets : List ℕ) (at : ℕ) : Type 0 where
  pub inside : at < header_length
  pub same : take at octets ≡ take at header
  pub other : slice_index octets at ≢ slice_index header at
  pub begun : Starts header octets → ⊥

-- behind whole batches the gate at this place is open, and its batch isn't whole
pub record IsBroken (header octets : List ℕ) (at : ℕ) : Type 0 where
  pub batches : List (List ℕ)
  pub front : take at octets ≡ header ++ spelled batches
  pub small : All IsSmall batches
  pub inside : at < length octets
  pub opened : gate_at octets at ≡ open_gate
  pub unwhole : IsWhole octets at → ⊥

-- The octets are no journal with this header, and this is the place that shows it.
abbrev pub IsForeign : List ℕ → List ℕ → ℕ → Type 0
IsForeign header octets at = Differs header octets at ⊎ IsBroken header octets at
