-- What one more element at the end of a list changes.
use Rattle.std.proofs.Common.{◌≡◌, ℕ, zero, suc, ◌+◌, ◌-◌, max, ◌==◌, ◌||◌, ◌&&◌, not, Bool, true, false, cond, if◌then◌else◌, List, [], ◌∷◌, ◌++◌, length, length-append, drop, fold, filter, count_by, Option, Some, unwrap_or, slice_get, refl, sym, ap, subst, ◌∙◌, arith, append_assoc}
use Rattle.std.specs.List.{after_last, suffix_len, prefix_len, last_or, list_any, slice_split, onto_first}
use Rattle.std.proofs.lemmas.List.{append-nil, reverse-append, drop-append-le}
use Rattle.std.proofs.lemmas.List.Elements.{filter-append}
use Rattle.std.proofs.lemmas.List.Sums.{fold-append, sum_by-append, sum_by-cons}
use Rattle.std.proofs.Math.Dec.{eqb-suc-suc, eqb-suc-zero, eqb-zero-suc}
use Rattle.std.proofs.Math.ListN.{drop_of_length-le}
use Rattle.std.proofs.lemmas.Bool.{eq-eqb, ne_eqb}
use Rattle.std.proofs.lemmas.Option.{slice_get_past}
use Rattle.std.proofs.lemmas.List.Splits.{length-slice_split}
use Rattle.gw_base.specs.Lists.{greatest, once, raised}

-- what holds of no elements, and goes on with each element more at the end, holds of all lists
pub by_last : {A : Type 0} (P : List A → Type 0) → P [] → ((xs : List A) (x : A) → P xs → P (xs ++ x ∷ [])) → (xs : List A) → P xs
by_last {A} P none more xs = from [] none xs
  where
    from : (before : List A) → P before → (rest : List A) → P (before ++ rest)
    from before p [] = subst P (sym (append-nil before)) p
    from before p (x ∷ rest) = subst P (append_assoc before (x ∷ []) rest) (from (before ++ x ∷ []) (more before x p) rest)

-- a fold over what follows gives what is meant of the whole list
pub fold_is : {A B : Type 0} (step : B → A → B) (meant : List A → B) → ((xs : List A) (x : A) → meant (xs ++ x ∷ []) ≡ step (meant xs) x) → (xs : List A) → fold step (meant []) xs ≡ meant xs
fold_is {A} {B} step meant more xs = from [] xs
  where
    from : (before rest : List A) → fold step (meant before) rest ≡ meant (before ++ rest)
    from before [] = ap meant (sym (append-nil before))
    from before (x ∷ rest) = ap (λ b. fold step b rest) (sym (more before x)) ∙ from (before ++ x ∷ []) rest ∙ ap meant (append_assoc before (x ∷ []) rest)

-- ---- after the last

pub after_last-push : {A : Type 0} (p : A → Bool) (xs : List A) (x : A) → after_last p (xs ++ x ∷ []) ≡ (if p x then [] else after_last p xs ++ x ∷ [])
after_last-push {A} p xs x = ap (λ (n : ℕ). drop (length (xs ++ x ∷ []) - n) (xs ++ x ∷ [])) suffix ∙ by_test (p x)
  where
    size : length (xs ++ x ∷ []) ≡ length xs + 1
    size = length-append xs (x ∷ [])

    suffix : suffix_len (λ y. not (p y)) (xs ++ x ∷ []) ≡ cond (not (p x)) (1 + suffix_len (λ y. not (p y)) xs) 0
    suffix = ap (λ (ys : List A). prefix_len (λ y. not (p y)) ys) (reverse-append xs (x ∷ []))

    by_test : (b : Bool) → drop (length (xs ++ x ∷ []) - cond (not b) (1 + suffix_len (λ y. not (p y)) xs) 0) (xs ++ x ∷ []) ≡ (if b then [] else after_last p xs ++ x ∷ [])
    by_test true = drop_of_length-le (xs ++ x ∷ []) (omega arith)
    by_test false =
        let at : length (xs ++ x ∷ []) - (1 + suffix_len (λ y. not (p y)) xs) ≡ length xs - suffix_len (λ y. not (p y)) xs = omega (arith, size) in
        rw at (drop-append-le (length xs - suffix_len (λ y. not (p y)) xs) xs (x ∷ []) (omega arith))

-- ---- the last

pub last_or-append : {A : Type 0} (o : Option A) (xs ys : List A) → last_or o (xs ++ ys) ≡ last_or (last_or o xs) ys
last_or-append o [] ys = refl
last_or-append o (x ∷ xs) ys = last_or-append (Some x) xs ys

-- ---- the greatest

pub greatest-push : (xs : List ℕ) (x : ℕ) → greatest (xs ++ x ∷ []) ≡ raised (greatest xs) x
greatest-push [] x = refl
greatest-push (y ∷ xs) x = ap (λ (t : ℕ). Some t) (fold-append (λ t z. max t z) y xs (x ∷ []))

-- ---- each once

-- a test of sameness: each of two that are the same passes for the other
pub record IsSameness {A : Type 0} (same : A → A → Bool) : Type 0 where
  pub first : (x y : A) → same x y ≡ true → (z : A) → same x z ≡ same y z
  pub second : (x y : A) → same x y ≡ true → (z : A) → same z x ≡ same z y

list_any-without : {A : Type 0} (same : A → A → Bool) (x y : A) → IsSameness same → same x y ≡ false → (xs : List A)
    → list_any (λ z. same z y) (filter (λ z. not (same x z)) xs) ≡ list_any (λ z. same z y) xs
list_any-without same x y is apart [] = refl
list_any-without {A} same x y is apart (z ∷ xs) = by_test (same x z) refl (list_any-without same x y is apart xs)
  where
    by_test : (b : Bool) → same x z ≡ b → list_any (λ w. same w y) (filter (λ w. not (same x w)) xs) ≡ list_any (λ w. same w y) xs
        → list_any (λ w. same w y) (cond (not b) (z ∷ filter (λ w. not (same x w)) xs) (filter (λ w. not (same x w)) xs)) ≡ (same z y || list_any (λ w. same w y) xs)
    by_test true e rest = let other : same z y ≡ false = sym (is.first x z e y) ∙ apart in rw other rest
    by_test false e rest = ap (λ (b : Bool). same z y || b) rest

pub once-push : {A : Type 0} (same : A → A → Bool) → IsSameness same → (xs : List A) (x : A)
    → once same (xs ++ x ∷ []) ≡ (if list_any (λ y. same y x) (once same xs) then once same xs else once same xs ++ x ∷ [])
once-push same is [] x = refl
once-push {A} same is (y ∷ xs) x = ap (λ (ys : List A). y ∷ filter (λ z. not (same y z)) ys) (once-push same is xs x) ∙ by_tests (same y x) (list_any (λ z. same z x) (once same xs)) refl refl
  where
    others : List A
    others = filter (λ z. not (same y z)) (once same xs)

    alone : (b : Bool) → same y x ≡ b → filter (λ z. not (same y z)) (once same xs ++ x ∷ []) ≡ others ++ cond (not b) (x ∷ []) []
    alone b e = filter-append (λ (z : A). not (same y z)) (once same xs) (x ∷ []) ∙ ap (λ (c : Bool). others ++ cond (not c) (x ∷ []) []) e

    by_tests : (b seen : Bool) → same y x ≡ b → list_any (λ z. same z x) (once same xs) ≡ seen
        → ◌≡◌ {A = List A} (y ∷ filter (λ z. not (same y z)) (if seen then once same xs else once same xs ++ x ∷ [])) (if same y x || list_any (λ z. same z x) others then y ∷ others else y ∷ (others ++ x ∷ []))
    by_tests true true e a = rw e refl
    by_tests true false e a = rw e (ap (λ (zs : List A). y ∷ zs) (alone true e ∙ append-nil others))
    by_tests false true e a = rw (e, list_any-without same y x is e (once same xs), a) refl
    by_tests false false e a = rw (e, list_any-without same y x is e (once same xs), a) (ap (λ (zs : List A). y ∷ zs) (alone false e))

-- ---- the parts

-- the part with this number
abbrev pub part : {A : Type 0} → (A → Bool) → ℕ → List A → List A
part p k xs = unwrap_or (slice_get (slice_split p xs) k) []

part-cons : {A : Type 0} (p : A → Bool) (k : ℕ) (x : A) (xs : List A) → p x ≡ false → part p (suc k) (x ∷ xs) ≡ part p (suc k) xs
part-cons {A} p k x xs e = rw e (by_parts (slice_split p xs))
  where
    by_parts : (parts : List (List A)) → unwrap_or (slice_get (onto_first x parts) (suc k)) [] ≡ unwrap_or (slice_get parts (suc k)) []
    by_parts [] = refl
    by_parts (y ∷ ys) = refl

part-first : {A : Type 0} (p : A → Bool) (x : A) (xs : List A) → p x ≡ false → part p 0 (x ∷ xs) ≡ x ∷ part p 0 xs
part-first {A} p x xs e = rw e (by_parts (slice_split p xs))
  where
    by_parts : (parts : List (List A)) → unwrap_or (slice_get (onto_first x parts) 0) [] ≡ x ∷ unwrap_or (slice_get parts 0) []
    by_parts [] = refl
    by_parts (y ∷ ys) = refl

count-cons : {A : Type 0} (p : A → Bool) (x : A) (xs : List A) → count_by p (x ∷ xs) ≡ (if p x then 1 else 0) + count_by p xs
count-cons p x xs = sum_by-cons (λ y. if p y then 1 else 0) x xs

pub count-push : {A : Type 0} (p : A → Bool) (xs : List A) (x : A) → count_by p (xs ++ x ∷ []) ≡ count_by p xs + (if p x then 1 else 0)
count-push p xs x = sum_by-append (λ y. if p y then 1 else 0) xs (x ∷ []) ∙ omega arith

-- one more element belongs to the last part, where it doesn't begin one
pub part-push : {A : Type 0} (p : A → Bool) (k : ℕ) (xs : List A) (x : A)
    → part p k (xs ++ x ∷ []) ≡ part p k xs ++ (if (count_by p xs == k) && not (p x) then x ∷ [] else [])
part-push {A} p k [] x = by_test (p x) k
  where
    by_test : (b : Bool) (k : ℕ) → unwrap_or (slice_get (cond b ([] ∷ [] ∷ []) ((x ∷ []) ∷ [])) k) [] ≡ unwrap_or (slice_get ([] ∷ []) k) [] ++ (if (0 == k) && not b then x ∷ [] else [])
    by_test true zero = refl
    by_test true (suc zero) = refl
    by_test true (suc (suc k)) = rw (eqb-zero-suc (suc k)) refl
    by_test false zero = refl
    by_test false (suc k) = rw (eqb-zero-suc k) refl
part-push {A} p k (y ∷ xs) x = by_test (p y) k refl (λ j. part-push p j xs x)
  where
    by_test : (b : Bool) (k : ℕ) → p y ≡ b → ((j : ℕ) → part p j (xs ++ x ∷ []) ≡ part p j xs ++ (if (count_by p xs == j) && not (p x) then x ∷ [] else []))
        → part p k (y ∷ (xs ++ x ∷ [])) ≡ part p k (y ∷ xs) ++ (if (count_by p (y ∷ xs) == k) && not (p x) then x ∷ [] else [])
    by_test true zero e rest =
        let n : count_by p (y ∷ xs) ≡ suc (count_by p xs) = count-cons p y xs ∙ rw e (omega arith) in
        rw (n, eqb-suc-zero (count_by p xs)) (rw e refl)
    by_test true (suc k) e rest =
        let n : count_by p (y ∷ xs) ≡ suc (count_by p xs) = count-cons p y xs ∙ rw e (omega arith) in
        rw (n, eqb-suc-suc (count_by p xs) k) (rw e (rest k))
    by_test false zero e rest =
        let n : count_by p (y ∷ xs) ≡ count_by p xs = count-cons p y xs ∙ rw e (omega arith) in
        rw (n, part-first p y (xs ++ x ∷ []) e, part-first p y xs e) (ap (λ (zs : List A). y ∷ zs) (rest 0))
    by_test false (suc k) e rest =
        let n : count_by p (y ∷ xs) ≡ count_by p xs = count-cons p y xs ∙ rw e (omega arith) in
        rw (n, part-cons p k y (xs ++ x ∷ []) e, part-cons p k y xs e) (rest (suc k))

-- there is no part past the last
part-past : {A : Type 0} (p : A → Bool) (xs : List A) → part p (count_by p xs + 1) xs ≡ []
part-past {A} p xs = ap (λ (o : Option (List A)). unwrap_or o []) (slice_get_past (slice_split p xs) (count_by p xs + 1) (omega (arith, length-slice_split p xs)))

-- the last part is what stands after the last element that parts
pub part-last : {A : Type 0} (p : A → Bool) (xs : List A) → part p (count_by p xs) xs ≡ after_last p xs
part-last {A} p xs = by_last (λ (ys : List A). part p (count_by p ys) ys ≡ after_last p ys) refl more xs
  where
    more : (ys : List A) (y : A) → part p (count_by p ys) ys ≡ after_last p ys → part p (count_by p (ys ++ y ∷ [])) (ys ++ y ∷ []) ≡ after_last p (ys ++ y ∷ [])
    more ys y rest = by_test (p y) refl
      where
        by_test : (b : Bool) → p y ≡ b → part p (count_by p (ys ++ y ∷ [])) (ys ++ y ∷ []) ≡ after_last p (ys ++ y ∷ [])
        by_test true e =
            let n : count_by p (ys ++ y ∷ []) ≡ count_by p ys + 1 = count-push p ys y ∙ rw e refl in
            let apart : (count_by p ys == (count_by p ys + 1)) ≡ false = ne_eqb (count_by p ys) (count_by p ys + 1) (λ e. absurd (omega (arith, e))) in
            rw (n, after_last-push p ys y, e, part-push p (count_by p ys + 1) ys y, apart, part-past p ys) refl
        by_test false e =
            let n : count_by p (ys ++ y ∷ []) ≡ count_by p ys = count-push p ys y ∙ rw e (omega arith) in
            let here : (count_by p ys == count_by p ys) ≡ true = eq-eqb (count_by p ys) (count_by p ys) refl in
            rw (n, after_last-push p ys y, part-push p (count_by p ys) ys y, here, e) (ap (λ (zs : List A). zs ++ y ∷ []) rest)
