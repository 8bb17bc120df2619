-- The disk model: what the calls of an area do to its octets, and what a crash at any moment may leave.
use Rattle.std.specs.Prelude.{◌≡◌, ℕ, ◌+◌, ◌-◌, ◌^◌, ◌≤◌, min, List, ◌++◌, length, take, drop, replicate, Result, OnOk, OnErr}

-- these octets, with others written over them from this place on
abbrev pub overwritten : List ℕ → ℕ → List ℕ → List ℕ
overwritten octets at from = take at octets ++ from ++ drop (at + length from) octets

-- new is old but for the n octets from this place on, which may be any
pub record Torn (at n : ℕ) (old new : List ℕ) : Type 0 where
  pub before : take at new ≡ take at old
  pub after : drop (at + n) new ≡ drop (at + n) old
  pub size : length new ≡ length old

-- each new outcome of a crash is an old outcome after a step
abbrev pub Follows : (List ℕ → List ℕ → Type 0) → (List ℕ → Type 0) → (List ℕ → Type 0) → Type 0
Follows step old new = (c : List ℕ) → new c → (d : List ℕ) × old d × step d c

-- each new outcome of a crash is an old one
abbrev pub Within : (List ℕ → Type 0) → (List ℕ → Type 0) → Type 0
Within old new = (c : List ℕ) → new c → old c

-- a crash leaves these octets and nothing else
abbrev pub Only : List ℕ → (List ℕ → Type 0) → Type 0
Only octets outcomes = (c : List ℕ) → outcomes c → c ≡ octets

-- so many octets 0
unfoldable pub zeros : ℕ → List ℕ
zeros n = replicate n 0

-- the last value of a count, at which it stands still
abbrev pub last_count : ℕ
last_count = 2 ^ 64 - 1

-- a count after n more
abbrev pub counted : ℕ → ℕ → ℕ
counted n count = min (count + n) last_count

-- the count rose, or stands at its last value, which counts as risen
abbrev pub Rose : ℕ → ℕ → Type 0
Rose before now = counted 1 before ≤ now

-- the count of faults doesn't fall, and a call fails exactly where it rose in the call
pub record HasCause {T E : Type 0} (before now : ℕ) (result : Result T E) : Type 0 where
  pub later : before ≤ now
  pub ok : OnOk result (now ≡ before)
  pub failed : OnErr result (Rose before now)
