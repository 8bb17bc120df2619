-- Stretches of an area, and octets that are the same outside them.
use Rattle.std.specs.Prelude.{◌≡◌, ◌⊎◌, ℕ, ◌+◌, ◌-◌, ◌<◌, ◌≤◌, min, max, List, [], ◌∷◌, length, get_or, replicate}
use Rattle.area_disk.specs.Disk.{overwritten, last_count}
use Rattle.area_disk.specs.Plan.{rot}
use Rattle.area_disk.specs.declared.plan.Outcome3.{Outcome3}
use Rattle.area_disk.specs.declared.plan.Outcome3.TheVariants.{Old, New, Rot}
use Rattle.area_disk.specs.declared.stretch.Stretch.{Stretch}

-- a place outside this stretch
abbrev pub IsBeside : Stretch → ℕ → Type 0
IsBeside s k = (k < s.at) ⊎ (s.at + s.count ≤ k)

-- a place outside all of these stretches
abbrev pub IsOutside : List Stretch → ℕ → Type 0
IsOutside [] k = Unit {0}
IsOutside (s ∷ stretches) k = IsBeside s k × IsOutside stretches k

-- the same octets outside these stretches
pub record SameOutside (stretches : List Stretch) (old new : List ℕ) : Type 0 where
  pub size : length new ≡ length old
  pub same : (k : ℕ) → IsOutside stretches k → get_or new k 0 ≡ get_or old k 0

-- each of these stretches lies in an area of n octets
abbrev pub EachFits : ℕ → List Stretch → Type 0
EachFits n stretches = (k : ℕ) (s : Stretch) → k < length stretches → (get_or stretches k s).at + (get_or stretches k s).count ≤ n

-- the first place of these stretches; the greatest number where there is none
abbrev pub low_of : List Stretch → ℕ
low_of [] = last_count
low_of (s ∷ stretches) = min s.at (low_of stretches)

-- the place after the last of them; 0 where there is none
abbrev pub high_of : List Stretch → ℕ
high_of [] = 0
high_of (s ∷ stretches) = max (s.at + s.count) (high_of stretches)

-- the shortest stretch that holds all of these
abbrev pub hull_of : List Stretch → Stretch
hull_of stretches =
    record { at = min (low_of stretches) (high_of stretches); count = high_of stretches - low_of stretches }

-- the place of the first one listed
abbrev pub first_place : List Stretch → ℕ
first_place [] = 0
first_place (s ∷ stretches) = s.at

-- these octets, with one value throughout the stretches
abbrev pub filled : ℕ → List Stretch → List ℕ → List ℕ
filled value [] octets = octets
filled value (s ∷ stretches) octets = filled value stretches (overwritten octets s.at (replicate s.count value))

-- what a stop leaves, of what stood at the last sync and what a read gives, which differ in these stretches
abbrev pub left_as : Outcome3 → List ℕ → List ℕ → List Stretch → List ℕ
left_as Old firm present unsynced = firm
left_as New firm present unsynced = present
left_as Rot firm present unsynced = filled rot unsynced present

-- what a stop leaves in a write whose range is the last of these stretches
abbrev pub left_by : Outcome3 → List ℕ → List ℕ → List Stretch → ℕ → List ℕ → List ℕ
left_by Old firm present unsynced at from = firm
left_by New firm present unsynced at from = overwritten present at from
left_by Rot firm present unsynced at from = filled rot unsynced present
