-- What a call may have written.
use Rattle.std.specs.Prelude.{ℕ, ◌≤◌, List, length, take, Option}
use Rattle.std.specs.Io.KnownBytes.{Appends}

-- some front of these octets was appended to what was written before
abbrev pub AppendsFront : Option (List ℕ) → Option (List ℕ) → List ℕ → Type 0
AppendsFront before after octets = (n : ℕ) × (n ≤ length octets) × Appends before after (take n octets)
