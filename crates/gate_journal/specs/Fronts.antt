-- Octets before a place, at it and behind it.
use Rattle.std.proofs.Common.{◌≡◌, ℕ, zero, suc, ◌+◌, ◌<◌, ◌≤◌, List, [], ◌∷◌, ◌++◌, length, get_or, take, drop, refl, sym, ◌∙◌, ap, arith, take-append-drop}
use Rattle.std.proofs.lemmas.List.{take-take, drop-drop, get_or-take, take_at, drop_at, drop_more}

take-nil : (n : ℕ) → take {A = ℕ} n [] ≡ []
take-nil zero = refl
take-nil (suc n) = refl

-- what is the same before a place is the same before an earlier one
pub front_of_front : (m n : ℕ) (a b : List ℕ) → m ≤ n → take n a ≡ take n b → take m a ≡ take m b
front_of_front m n a b le same = sym (take-take m n a le) ∙ ap (λ (l : List ℕ). take m l) same ∙ take-take m n b le

-- and so is the octet at an earlier one
pub at_front : (i n d : ℕ) (a b : List ℕ) → i < n → take n a ≡ take n b → get_or a i d ≡ get_or b i d
at_front i n d a b lt same =
    sym (get_or-take n a i d lt) ∙ ap (λ (l : List ℕ). get_or l i d) same ∙ get_or-take n b i d lt

-- a list is its front, the element there and what is behind it
pub around : (at d : ℕ) (a : List ℕ) → at < length a → a ≡ take at a ++ get_or a at d ∷ drop (at + 1) a
around at d a lt = sym (take-append-drop at a) ∙ ap (λ (l : List ℕ). take at a ++ l) (drop_more a at d lt)

module _ (at : ℕ) (front back : List ℕ) (e : ℕ) (is : length front ≡ at) where
  pub take_around : take at (front ++ e ∷ back) ≡ front
  take_around = take_at front (e ∷ back) at is

  pub drop_around : drop (at + 1) (front ++ e ∷ back) ≡ back
  drop_around =
      sym (drop-drop 1 at (front ++ e ∷ back)) ∙ ap (λ (l : List ℕ). drop 1 l) (drop_at front (e ∷ back) at is)

-- lists that differ in their first element alone
pub front_but_first : (n : ℕ) (a b : List ℕ) → drop 1 a ≡ drop 1 b → drop 1 (take n a) ≡ drop 1 (take n b)
front_but_first zero a b e = refl
front_but_first (suc n) [] [] e = refl
front_but_first (suc n) [] (y ∷ b) e = sym (take-nil n) ∙ ap (λ (l : List ℕ). take n l) e
front_but_first (suc n) (x ∷ a) [] e = ap (λ (l : List ℕ). take n l) e ∙ take-nil n
front_but_first (suc n) (x ∷ a) (y ∷ b) e = ap (λ (l : List ℕ). take n l) e

pub later_but_first : (n d : ℕ) (a b : List ℕ) → 1 ≤ n → drop 1 a ≡ drop 1 b → get_or a n d ≡ get_or b n d
later_but_first zero d a b low e = absurd (omega arith)
later_but_first (suc n) d [] [] low e = refl
later_but_first (suc n) d [] (y ∷ b) low e = ap (λ (l : List ℕ). get_or l n d) e
later_but_first (suc n) d (x ∷ a) [] low e = ap (λ (l : List ℕ). get_or l n d) e
later_but_first (suc n) d (x ∷ a) (y ∷ b) low e = ap (λ (l : List ℕ). get_or l n d) e
