-- Counts of faults, and of calls: they go up by one and stand still at the last value of 64 bits.
use Rattle.std.specs.Prelude.{ℕ, ◌+◌, ◌-◌, ◌^◌, ◌<◌, ◌≡◌, ◌⊎◌, min}

-- the next value of a count
abbrev pub next_count : ℕ → ℕ
next_count n = min (n + 1) (2 ^ 64 - 1)

-- a count rose from one moment to a later one; one that stands at its last value counts as risen
abbrev pub Rose : ℕ → ℕ → Type 0
Rose before after = (before < after) ⊎ (after ≡ 2 ^ 64 - 1)

-- a count stood from one moment to a later one: it is the same, below its last value
abbrev pub Stood : ℕ → ℕ → Type 0
Stood before after = (after ≡ before) × (before < 2 ^ 64 - 1)
