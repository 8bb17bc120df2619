-- Seats, read by their numbers, and how many passes they have.
use Rattle.std.proofs.Common.{◌≡◌, ◌≢◌, ◌⊎◌, inl, inr, ⊎_elim, ℕ, zero, suc, ◌+◌, ◌<◌, ◌≤◌, List, [], ◌∷◌, ◌++◌, length, set, refl, sym, ap, ◌∙◌, arith}
use Rattle.turn_cell.proofs.Names.{get_elem?, HasNumber, Knowledge, passes_in, SeatView, some, some-injective, some-ne-none}

module _ {A : Type 0} where
  pub inside : (l : List A) (i : ℕ) (a : A) → get_elem? l i ≡ some a → i < length l
  inside [] i a e = absurd (some-ne-none a (sym e))
  inside (x ∷ xs) zero a e = omega arith
  inside (x ∷ xs) (suc i) a e = let h = inside xs i a e in omega arith

  pub only_one : (x a : A) (i : ℕ) → get_elem? (x ∷ []) i ≡ some a → (i ≡ 0) × (x ≡ a)
  only_one x a zero e = (refl, some-injective x a e)
  only_one x a (suc i) e = absurd (some-ne-none a (sym e))

  pub same_one : (l : List A) (i : ℕ) (a b : A) → get_elem? l i ≡ some a → get_elem? l i ≡ some b → a ≡ b
  same_one l i a b p q = some-injective a b (sym p ∙ q)

  pub at_snoc_place : (l : List A) (a b : A) (j : ℕ) → get_elem? (l ++ a ∷ []) j ≡ some b → (get_elem? l j ≡ some b) ⊎ ((j ≡ length l) × (a ≡ b))
  at_snoc_place [] a b zero e = inr (refl, some-injective a b e)
  at_snoc_place [] a b (suc j) e = absurd (some-ne-none b (sym e))
  at_snoc_place (x ∷ xs) a b zero e = inl e
  at_snoc_place (x ∷ xs) a b (suc j) e = ⊎_elim (λ (t : get_elem? xs j ≡ some b). inl t) (λ (t : (j ≡ length xs) × (a ≡ b)). inr (ap suc t.0, t.1)) (at_snoc_place xs a b j e)

pub passes_set : (vs : List SeatView) (i : ℕ) (d d' : SeatView) → get_elem? vs i ≡ some d → passes_in (set vs i d') + length d.passes ≡ passes_in vs + length d'.passes
passes_set [] i d d' e = absurd (some-ne-none d (sym e))
passes_set (x ∷ xs) zero d d' e = let same : length x.passes ≡ length d.passes = ap (λ (z : SeatView). length z.passes) (some-injective x d e) in omega arith
passes_set (x ∷ xs) (suc i) d d' e = let h = passes_set xs i d d' e in omega arith

pub passes_more : (vs : List SeatView) (d : SeatView) → passes_in (vs ++ d ∷ []) ≡ passes_in vs + length d.passes
passes_more [] d = omega arith
passes_more (x ∷ xs) d = let h = passes_more xs d in omega arith

-- a seat has no more passes than all seats
pub passes_at : (vs : List SeatView) (i : ℕ) (d : SeatView) → get_elem? vs i ≡ some d → length d.passes ≤ passes_in vs
passes_at [] i d e = absurd (some-ne-none d (sym e))
passes_at (x ∷ xs) zero d e = let same : length x.passes ≡ length d.passes = ap (λ (z : SeatView). length z.passes) (some-injective x d e) in omega arith
passes_at (x ∷ xs) (suc i) d e = let h = passes_at xs i d e in omega arith

-- nor have two of them
pub passes_at_two : (vs : List SeatView) (i j : ℕ) (d e : SeatView) → i ≢ j → get_elem? vs i ≡ some d → get_elem? vs j ≡ some e → length d.passes + length e.passes ≤ passes_in vs
passes_at_two [] i j d e apart p q = absurd (some-ne-none d (sym p))
passes_at_two (x ∷ xs) zero zero d e apart p q = absurd (apart refl)
passes_at_two (x ∷ xs) zero (suc j) d e apart p q = let same : length x.passes ≡ length d.passes = ap (λ (z : SeatView). length z.passes) (some-injective x d p) in let h = passes_at xs j e q in omega arith
passes_at_two (x ∷ xs) (suc i) zero d e apart p q = let same : length x.passes ≡ length e.passes = ap (λ (z : SeatView). length z.passes) (some-injective x e q) in let h = passes_at xs i d p in omega arith
passes_at_two (x ∷ xs) (suc i) (suc j) d e apart p q = let h = passes_at_two xs i j d e (λ (s : i ≡ j). apart (ap suc s)) p q in omega arith

pub has_left : (n : ℕ) (ks ls : List Knowledge) → HasNumber n ks → HasNumber n (ks ++ ls)
has_left n [] ls h = absurd h
has_left n (k ∷ ks) ls h = ⊎_elim (λ (t : k.number ≡ n). inl t) (λ (t : HasNumber n ks). inr (has_left n ks ls t)) h

pub has_right : (n : ℕ) (ks ls : List Knowledge) → HasNumber n ls → HasNumber n (ks ++ ls)
has_right n [] ls h = h
has_right n (k ∷ ks) ls h = inr (has_right n ks ls h)
