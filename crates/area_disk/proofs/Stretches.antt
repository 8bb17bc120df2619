-- Steps of the loops over stretches.
use Rattle.std.proofs.Common.{◌≡◌, ◌⊎◌, inl, inr, ℕ, ◌+◌, ◌-◌, ◌<◌, ◌≤◌, min, max, List, ◌∷◌, length, get_or, take, drop, sym, ◌∙◌, ap, subst, arith, length-drop}
use Rattle.std.proofs.lemmas.List.{drop_more, length-take-le}
use Rattle.std.proofs.lemmas.Grind.{common_steps}
use borrow.Rule.Slice.PartMut.{put_mid}
use Rattle.area_disk.specs.Disk.{overwritten}
use Rattle.area_disk.specs.Stretch.{IsBeside, IsOutside, SameOutside}
use Rattle.area_disk.specs.Outside.{same_copied}
use Rattle.area_disk.specs.declared.stretch.Stretch.{Stretch}

-- a slice written from `a` on, as an overwriting
pub put_mid_is : (a k : ℕ) (xs ys : List ℕ) → length ys ≡ k → put_mid a k xs ys ≡ overwritten xs a ys
put_mid_is a k xs ys size = grind (arith, common_steps)

pub outside_at : (stretches : List Stretch) (i : ℕ) (d : Stretch) (k : ℕ) → i < length stretches → IsBeside (get_or stretches i d) k → IsOutside (drop (i + 1) stretches) k → IsOutside (drop i stretches) k
outside_at stretches i d k below beside rest = subst (λ (l : List Stretch). IsOutside l k) (sym (drop_more stretches i d below)) (beside, rest)

-- beside a stretch that was widened is beside the one before and beside what was taken in
pub beside_before : (low high at end low' high' k : ℕ) → low' ≡ min low at → high' ≡ max high end → (k < low') ⊎ (high' ≤ k) → (k < low) ⊎ (high ≤ k)
beside_before low high at end low' high' k lo hi (inl b) = inl (omega (arith, lo, b))
beside_before low high at end low' high' k lo hi (inr a) = inr (omega (arith, hi, a))

pub beside_taken : (low high at end low' high' k : ℕ) → low' ≡ min low at → high' ≡ max high end → (k < low') ⊎ (high' ≤ k) → (k < at) ⊎ (end ≤ k)
beside_taken low high at end low' high' k lo hi (inl b) = inl (omega (arith, lo, b))
beside_taken low high at end low' high' k lo hi (inr a) = inr (omega (arith, hi, a))

-- one stretch more was made the same
pub copied_step : (stretches : List Stretch) (i : ℕ) (d : Stretch) (from to part : List ℕ) → i < length stretches
    → (get_or stretches i d).at + (get_or stretches i d).count ≤ length from → SameOutside (drop i stretches) from to
    → part ≡ take ((get_or stretches i d).at + (get_or stretches i d).count - (get_or stretches i d).at) (drop (get_or stretches i d).at from)
    → SameOutside (drop (i + 1) stretches) from (put_mid (get_or stretches i d).at ((get_or stretches i d).at + (get_or stretches i d).count - (get_or stretches i d).at) to part)
copied_step stretches i d from to part below fits same is =
    let s : Stretch = get_or stretches i d in
    let n_is : s.at + s.count - s.at ≡ s.count = omega arith in
    let size : length part ≡ s.at + s.count - s.at = ap length is ∙ length-take-le (s.at + s.count - s.at) (drop s.at from) (omega (arith, fits, length-drop s.at from)) in
    let part_is : part ≡ take s.count (drop s.at from) = is ∙ ap (λ n. take n (drop s.at from)) n_is in
    let before : SameOutside (s ∷ drop (i + 1) stretches) from to = subst (λ (l : List Stretch). SameOutside l from to) (drop_more stretches i d below) same in
    subst (λ z. SameOutside (drop (i + 1) stretches) from z) (sym (put_mid_is s.at (s.at + s.count - s.at) to part size ∙ ap (λ p. overwritten to s.at p) part_is)) (same_copied (drop (i + 1) stretches) s from to fits before)
