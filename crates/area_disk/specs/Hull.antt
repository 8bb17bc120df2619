-- The shortest stretch that holds others.
use Rattle.std.proofs.Common.{◌≡◌, ◌⊎◌, inl, inr, ℕ, ◌+◌, ◌-◌, ◌<◌, ◌≤◌, min, max, List, [], ◌∷◌, ◌++◌, arith}
use Rattle.area_disk.specs.Disk.{last_count}
use Rattle.area_disk.specs.Stretch.{IsBeside, IsOutside, low_of, high_of, hull_of, first_place}
use Rattle.area_disk.specs.declared.stretch.Stretch.{Stretch}

pub low_of_least : (stretches : List Stretch) → low_of stretches ≤ last_count
low_of_least [] = omega arith
low_of_least (s ∷ stretches) = omega (arith, low_of_least stretches)

beside_all : (stretches : List Stretch) (k : ℕ) → (k < low_of stretches) ⊎ (high_of stretches ≤ k) → IsOutside stretches k
beside_all [] k out = tt
beside_all (s ∷ stretches) k (inl below) = (inl (omega (arith, below)), beside_all stretches k (inl (omega (arith, below))))
beside_all (s ∷ stretches) k (inr above) = (inr (omega (arith, above)), beside_all stretches k (inr (omega (arith, above))))

-- what is beside it is outside all of them
pub hull_covers : (stretches : List Stretch) (k : ℕ) → IsBeside (hull_of stretches) k → IsOutside stretches k
hull_covers stretches k (inl below) = beside_all stretches k (inl (omega (arith, below)))
hull_covers stretches k (inr above) = beside_all stretches k (inr (omega (arith, above)))

-- with one stretch more
pub low_of-push : (stretches : List Stretch) (s : Stretch) → low_of (stretches ++ s ∷ []) ≡ min (low_of stretches) (min s.at last_count)
low_of-push [] s = omega arith
low_of-push (x ∷ stretches) s = omega (arith, low_of-push stretches s)

pub high_of-push : (stretches : List Stretch) (s : Stretch) → high_of (stretches ++ s ∷ []) ≡ max (high_of stretches) (s.at + s.count)
high_of-push [] s = omega arith
high_of-push (x ∷ stretches) s = omega (arith, high_of-push stretches s)

-- no octets at the first of them make no difference
pub hull_of-same : (stretches : List Stretch) → hull_of (stretches ++ record { at = first_place stretches; count = 0 } ∷ []) ≡ hull_of stretches
hull_of-same [] = λ i. record { at = at i; count = count i }
  where
    at : min (min 0 last_count) (max (0 + 0) 0) ≡ min last_count 0
    at = omega arith

    count : max (0 + 0) 0 - min 0 last_count ≡ 0 - last_count
    count = omega arith
hull_of-same (s ∷ stretches) =
    let here : Stretch = record { at = s.at; count = 0 } in
    let low = low_of-push (s ∷ stretches) here in
    let high = high_of-push (s ∷ stretches) here in
    let at : min (low_of ((s ∷ stretches) ++ here ∷ [])) (high_of ((s ∷ stretches) ++ here ∷ [])) ≡ min (low_of (s ∷ stretches)) (high_of (s ∷ stretches)) = omega (arith, low, high, low_of_least stretches) in
    let count : high_of ((s ∷ stretches) ++ here ∷ []) - low_of ((s ∷ stretches) ++ here ∷ []) ≡ high_of (s ∷ stretches) - low_of (s ∷ stretches) = omega (arith, low, high, low_of_least stretches) in
    λ i. record { at = at i; count = count i }
