-- What the batches of a journal are read by: gates, the batches behind them, and places inside one.
use Rattle.std.specs.Prelude.{◌≡◌, ℕ, ◌+◌, ◌-◌, ◌≤◌, List, ◌∷◌, ◌++◌, length, take, drop, Option, Some}
use Rattle.area_disk.specs.declared.area.Area.{Ghosts}
use Rattle.gate_journal.specs.Format.{end_of, longest_batch}
use Rattle.gate_journal.specs.Journal.{batches, end}
use Rattle.gate_journal.specs.Moments.{Told}
use Rattle.gate_journal.specs.declared.journal.Journal.{Journal}

-- This place is a gate: that behind some of the first batches, and in the area in any case.
pub record IsGate {A : Type 0} {tells : Ghosts A} (journal : Journal A tells) (gate : ℕ) : Type 0 where
  pub low : 32 ≤ gate
  pub high : gate ≤ end journal
  pub behind : Told tells
      → (some : List (List ℕ)) × (more : List (List ℕ)) × (batches journal ≡ some ++ more) × (gate ≡ end_of some)

-- a batch of the journal: behind this gate its content begins at this place and has so many octets
pub record IsBatch {A : Type 0} {tells : Ghosts A} (journal : Journal A tells) (gate at n : ℕ) : Type 0 where
  pub before : List (List ℕ)
  pub content : List ℕ
  pub behind : List (List ℕ)
  pub listed : batches journal ≡ before ++ content ∷ behind
  pub gate_is : gate ≡ end_of before
  pub place : at ≡ gate + 5
  pub size : n ≡ length content

-- These octets lie in the content of one batch, and in the area in any case.
pub record IsInside {A : Type 0} {tells : Ghosts A} (journal : Journal A tells) (at n : ℕ) : Type 0 where
  pub high : at + n ≤ end journal
  pub content : Told tells → (some : List (List ℕ)) × (batch : List ℕ) × (more : List (List ℕ))
      × (batches journal ≡ some ++ batch ∷ more) × (end_of some + 5 ≤ at) × (at + n ≤ end_of some + 5 + length batch)

-- the content of a whole batch was found behind this gate, and the place after it is a gate again
pub record IsContent {A : Type 0} {tells : Ghosts A} (old new : Journal A tells) (gate at n : ℕ) : Type 0 where
  pub batch : Told tells → IsBatch old gate at n
  pub place : at ≡ gate + 5
  pub inside : at + n ≤ end old
  pub short : n ≤ longest_batch
  pub next : IsGate new (at + n)

-- these octets are the n from this place on, where those lie in the content of one batch
abbrev pub IsRead : {A : Type 0} {tells : Ghosts A} → Journal A tells → ℕ → ℕ → List ℕ → Type 0
IsRead journal at n octets = (some : List (List ℕ)) (batch : List ℕ) (more : List (List ℕ)) →
    batches journal ≡ some ++ batch ∷ more → end_of some + 5 ≤ at → at + n ≤ end_of some + 5 + length batch →
    octets ≡ take n (drop (at - (end_of some + 5)) batch)

-- the batch behind this gate is found, where one stands there
abbrev pub IsFound : {A : Type 0} {tells : Ghosts A} → Journal A tells → ℕ → Option (ℕ × ℕ) → Type 0
IsFound journal gate found = (some : List (List ℕ)) (batch : List ℕ) (more : List (List ℕ)) →
    batches journal ≡ some ++ batch ∷ more → gate ≡ end_of some → found ≡ Some (gate + 5, length batch)
