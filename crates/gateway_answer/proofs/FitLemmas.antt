-- Packets that are fit, and numbers that differ.
use Rattle.std.proofs.Common.{◌≡◌, inl, inr, ℕ, suc, ◌-◌, ◌<◌, ◌≤◌, ◌==◌, ◌&&◌, ◌||◌, not, Bool, true, false, List, [], ◌∷◌, length, drop, refl, ap, ◌∙◌, arith}
use Rattle.gateway_answer.proofs.Names.{and_right, are_distinct, AreWithin, drop_more, eqb-true, false_from_ne_true, list_all, list_any, or_cases, slice_index_or}
use Rattle.std.proofs.lemmas.Bool.Decides.{nat_tests}

-- all others differ from a number where none is equal to it
turned : (a b : ℕ) → (a == b) ≡ (b == a)
turned a b = grind (arith, nat_tests)

neither : (b c : Bool) → (not b && not c) ≡ not (b || c)
neither true c = refl
neither false c = refl

pub all_differ : (x : ℕ) (xs : List ℕ) → list_all (λ y. not (x == y)) xs ≡ not (list_any (λ y. y == x) xs)
all_differ x [] = refl
all_differ x (y ∷ xs) = (λ i. not (turned x y i) && all_differ x xs i) ∙ neither (y == x) (list_any (λ z. z == x) xs)

step : (numbers : List ℕ) (k d : ℕ) → 0 < k → k ≤ length numbers → drop (k - 1) numbers ≡ slice_index_or numbers (k - 1) d ∷ drop k numbers
step numbers k d some inside =
    drop_more numbers (k - 1) d (omega (arith, some, inside)) ∙ ap (λ n. slice_index_or numbers (k - 1) d ∷ drop n numbers) (omega (arith, some))

-- one number more in front
module _ (x : ℕ) (xs : List ℕ) where
  pub still_differ : are_distinct xs ≡ true → list_any (λ y. y == x) xs ≡ false → are_distinct (x ∷ xs) ≡ true
  still_differ differ none = rw (all_differ x xs, none, differ) refl

  pub no_more_differ : list_any (λ y. y == x) xs ≡ true → are_distinct (x ∷ xs) ≡ false
  no_more_differ some = rw (all_differ x xs, some) refl

  pub one_within : (least greatest low high : ℕ) → AreWithin least greatest xs → low ≤ least → low ≤ x → greatest ≤ high → x ≤ high
      → AreWithin low high (x ∷ xs)
  one_within least greatest low high within below low_x above high_x y is = elim (or_cases (x == y) (list_any (λ z. z == y) xs) is) [
    | inl e ↦ let same = eqb-true x y e in (omega (arith, low_x, same), omega (arith, high_x, same))
    | inr found ↦ (omega (arith, below, (within y found).0), omega (arith, above, (within y found).1))
  ]

  -- a number beyond the bounds is none of them
  pub none_beyond : (least greatest : ℕ) → AreWithin least greatest xs → ((least ≤ x) × (x ≤ greatest) → ⊥) → list_any (λ y. y == x) xs ≡ false
  none_beyond least greatest within beyond = false_from_ne_true _ (λ is. beyond (within x is))

-- numbers don't differ where some of the last ones don't
pub last_same : (i : ℕ) (xs : List ℕ) → are_distinct (drop i xs) ≡ false → are_distinct xs ≡ false
last_same (suc i) (x ∷ xs) is = and_right (list_all (λ y. not (x == y)) xs) (are_distinct xs) (last_same i xs is)
last_same _ _ is = is

-- the step of a loop from the last number to the first
module _ (numbers : List ℕ) (k d : ℕ) (some : 0 < k) (inside : k ≤ length numbers) where
  pub differ_on : are_distinct (drop k numbers) ≡ true → list_any (λ y. y == slice_index_or numbers (k - 1) d) (drop k numbers) ≡ false
      → are_distinct (drop (k - 1) numbers) ≡ true
  differ_on differ none = rw (step numbers k d some inside) (still_differ (slice_index_or numbers (k - 1) d) (drop k numbers) differ none)

  pub same_here : list_any (λ y. y == slice_index_or numbers (k - 1) d) (drop k numbers) ≡ true → are_distinct numbers ≡ false
  same_here found =
      last_same (k - 1) numbers (rw (step numbers k d some inside) (no_more_differ (slice_index_or numbers (k - 1) d) (drop k numbers) found))

  pub within_on : (least greatest low high : ℕ) → AreWithin least greatest (drop k numbers) → low ≤ least → low ≤ slice_index_or numbers (k - 1) d
      → greatest ≤ high → slice_index_or numbers (k - 1) d ≤ high → AreWithin low high (drop (k - 1) numbers)
  within_on least greatest low high within below low_x above high_x =
      rw (step numbers k d some inside)
      (one_within (slice_index_or numbers (k - 1) d) (drop k numbers) least greatest low high within below low_x above high_x)
