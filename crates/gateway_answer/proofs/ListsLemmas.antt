-- Lemmas on the request numbers that a list names, for the loops that go over it.
use Rattle.std.proofs.Common.{◌≡◌, ℕ, ◌+◌, ◌<◌, ◌≤◌, ◌==◌, ◌&&◌, not, Bool, true, false, cond, if◌then◌else◌, List, [], ◌∷◌, ◌++◌, length, get_or, drop, filter, fold, map, Option, refl, ap, sym, ◌∙◌, arith, append_assoc, inl, inr}
use Rattle.gateway_answer.proofs.Names.{append-nil, AreClear, AreMarked, at_drop_more, cases_Bool, eqb-true, fold_is, held_ones, is_held, IsSameness, length-map, list_any, nearest, Observed, once, once-push, with_held, with_number}
use Rattle.std.proofs.lemmas.List.Elements.{filter-append}

pub step_numbers : (top : Option ℕ) (numbers : List ℕ) (place number : ℕ) (front new : List ℕ) → place < length numbers →
    number ≡ nearest top (get_or numbers place 0) → new ≡ front ++ number ∷ [] →
    new ++ map (nearest top) (drop (place + 1) numbers) ≡ front ++ map (nearest top) (drop place numbers)
step_numbers top numbers place number front new h is grown =
    rw (grown, is, append_assoc) (sym (at_drop_more (λ (xs : List ℕ). front ++ map (nearest top) xs) numbers place 0 h))

-- the numbers that a short list names are as few
pub named_are_few : (top : Option ℕ) (wires found : List ℕ) → found ≡ map (nearest top) wires → length wires ≤ 32767 → length found ≤ 32767
named_are_few top wires found is short =
    let count : length found ≡ length wires = ap length is ∙ length-map wires (nearest top) in
    omega (arith, count, short)

-- equality of numbers is a test of sameness
same_numbers : IsSameness (λ (x : ℕ) (y : ℕ). x == y)
same_numbers = record {
  first = λ x y e z. ap (λ (n : ℕ). n == z) (eqb-true x y e);
  second = λ x y e z. ap (λ (n : ℕ). z == n) (eqb-true x y e);
}

-- the held ones of these numbers and of one more
pub held_ones-push : (o : Observed) (xs : List ℕ) (x : ℕ) → held_ones o (xs ++ x ∷ []) ≡ with_held o (held_ones o xs) x
held_ones-push o xs x =
    ap (once (λ (y : ℕ) (z : ℕ). y == z)) (filter-append (λ (y : ℕ). is_held (o.state y)) xs (x ∷ [])) ∙ by_test (is_held (o.state x))
  where
    held : List ℕ
    held = filter (λ y. is_held (o.state y)) xs

    by_test : (b : Bool) → once (λ (y : ℕ) (z : ℕ). y == z) (held ++ cond b (x ∷ []) [])
        ≡ (if b && not (list_any (λ y. y == x) (held_ones o xs)) then held_ones o xs ++ x ∷ [] else held_ones o xs)
    by_test true = once-push (λ (y : ℕ) (z : ℕ). y == z) same_numbers held x ∙ elim (cases_Bool (list_any (λ y. y == x) (held_ones o xs))) [
      | inl e ↦ rw e refl
      | inr e ↦ rw e refl
    ]
    by_test false = ap (once (λ (y : ℕ) (z : ℕ). y == z)) (append-nil held)

abbrev pub held_from : Observed → List ℕ → List ℕ → List ℕ
held_from o found xs = fold (λ ys x. with_held o ys x) found xs

-- those found number by number are the held ones
pub held_is : (o : Observed) (xs : List ℕ) → held_from o [] xs ≡ held_ones o xs
held_is o xs = fold_is (λ (ys : List ℕ) (x : ℕ). with_held o ys x) (held_ones o) (held_ones-push o) xs

abbrev pub once_from : List ℕ → List ℕ → List ℕ
once_from found xs = fold (λ ys x. with_number ys x) found xs

-- those found number by number are each of the numbers once
pub once_is : (xs : List ℕ) → once_from [] xs ≡ once (λ (x : ℕ) (y : ℕ). x == y) xs
once_is xs = fold_is (λ (ys : List ℕ) (x : ℕ). with_number ys x) (once (λ (x : ℕ) (y : ℕ). x == y)) (once-push (λ (x : ℕ) (y : ℕ). x == y) same_numbers) xs

-- ---- lemmas on marks, and on the loop over the numbers that a list names

pub none_marked : (top : Option ℕ) (marks : List Bool) → AreClear marks → AreMarked top marks []
none_marked top marks are = record { size = are.size; marked = are.clear }

-- one number of the list more was looked at
pub step_held : (o : Observed) (top : Option ℕ) (wires : List ℕ) (place w : ℕ) (front new : List ℕ) → place < length wires → w ≡ get_or wires place 0
    → new ≡ with_held o front (nearest top w)
    → held_from o new (map (nearest top) (drop (place + 1) wires)) ≡ held_from o front (map (nearest top) (drop place wires))
step_held o top wires place w front new lt is grown =
    rw (grown, is) (sym (at_drop_more (λ (xs : List ℕ). held_from o front (map (nearest top) xs)) wires place 0 lt))
