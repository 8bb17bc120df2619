-- What the steps of an opening answer.
use Rattle.std.specs.Prelude.{◌≡◌, ◌≢◌, ℕ, ◌+◌, ◌<◌, ◌≤◌, true, false, List, length, take, drop, slice_index, All, Option, None, Some, nat_lt, if◌then◌else◌}
use Rattle.byteorder.specs.Endian.{big_bytes}
use Rattle.gate_journal.specs.Format.{open_gate, gate_at, length_at, spelled, IsSmall, IsUnfinished, Differs, IsWhole, longest_batch}
use Rattle.gate_journal.specs.State.{batches_below}
use Rattle.gate_journal.specs.declared.reading.Verdict.{Verdict}
use Rattle.gate_journal.specs.declared.reading.Verdict.TheVariants.{Starts as Begins, Same, Other}
use Rattle.gate_journal.specs.declared.reading.Behind.{Behind}
use Rattle.gate_journal.specs.declared.reading.Behind.TheVariants.{Shut, Whole, Cut}
use Rattle.gate_journal.specs.declared.reading.Scanned.{Scanned}
use Rattle.gate_journal.specs.declared.reading.Scanned.TheVariants.{End, Broken}

-- what the first octets say of the area
abbrev pub IsVerdict : List ℕ → List ℕ → Verdict → Type 0
IsVerdict header octets (Begins true) = slice_index octets 0 ≡ 0
IsVerdict header octets (Begins false) = IsUnfinished header octets
IsVerdict header octets Same = take 32 octets ≡ header
IsVerdict header octets (Other at) = Differs header octets at

-- what stands at a gate
abbrev pub IsBehind : List ℕ → ℕ → Behind → Type 0
IsBehind octets at Shut = gate_at octets at ≢ open_gate
IsBehind octets at (Whole length) = (gate_at octets at ≡ open_gate)
    × (length ≡ length_at octets at) × (take 4 (drop (at + 1) octets) ≡ big_bytes 4 length)
IsBehind octets at Cut = (gate_at octets at ≡ open_gate) × (IsWhole octets at → ⊥)

-- the batch behind the gate at this place lies in an area of this size
abbrev pub Fits : ℕ → ℕ → Behind → Type 0
Fits size at Shut = Unit {0}
Fits size at (Whole length) = (length ≤ longest_batch) × (at + 5 + length < size)
Fits size at Cut = Unit {0}

-- batches stand between octet 32 and this place
pub record AreBelow (at : ℕ) (octets : List ℕ) : Type 0 where
  pub spelling : drop 32 (take at octets) ≡ spelled (batches_below at octets)
  pub small : All IsSmall (batches_below at octets)

-- where the batches end
abbrev pub IsScanned : List ℕ → Scanned → Type 0
IsScanned octets (End gate) = AreBelow gate octets × (gate_at octets gate ≢ open_gate)
IsScanned octets (Broken at) = AreBelow at octets × (gate_at octets at ≡ open_gate) × (IsWhole octets at → ⊥)

-- the gate that was found lies in an area of this size
abbrev pub LiesIn : ℕ → Scanned → Type 0
LiesIn size (End gate) = (32 ≤ gate) × (gate < size)
LiesIn size (Broken at) = (32 ≤ at) × (at < size)

-- the place and the length of the content behind a gate, of a batch that ends at the first closed gate or before
abbrev pub content_at : Behind → ℕ → ℕ → Option (ℕ × ℕ)
content_at Shut gate end = None
content_at (Whole length) gate end = if nat_lt end (gate + 5 + length) then None else Some (gate + 5, length)
content_at Cut gate end = None
