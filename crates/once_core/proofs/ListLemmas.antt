-- Elements of lists.
use Rattle.std.proofs.Common.{Bool, Contains, List, Some, [], ap, arith, false, filter, inl, inr, length, map, refl, slice_get, subst, suc, zero, sym, take, true, ℕ, ⊎_elim, ◌∙◌, ◌∷◌, ◌≡◌, ◌⊎◌}
use Rattle.once_core.proofs.Names.{All-contains, All-contains_itself, All-filter, All-take, both_ways, cond-false, cond-true, Contains-append_cases, Contains-append_left, Contains-append_right, filter_passes, flat_map, get_or-map, get_or_from_slice_get, length-map, list_any, slice_get_read, slice_get_within}
use Rattle.std.proofs.lemmas.List.Folds.{Any-from_list_any}
use Rattle.once_core.proofs.CaseLemmas.{if_known}

pub in_head : {A : Type 0} (x : A) (xs : List A) → Contains (x ∷ xs) x
in_head x xs = (0, omega arith, refl)

pub in_tail : {A : Type 0} (x y : A) (xs : List A) → Contains xs y → Contains (x ∷ xs) y
in_tail x y xs is = (suc is.0, omega (arith, is.1), is.2)

pub in_cons : {A : Type 0} (x y : A) (xs : List A) → Contains (x ∷ xs) y → (x ≡ y) ⊎ Contains xs y
in_cons x y xs (zero, lt, e) = inl e
in_cons x y xs (suc k, lt, e) = inr (k, omega (arith, lt), e)

pub in_none : {A P : Type 0} (y : A) → Contains [] y → P
in_none y is = absurd (omega (arith, is.1))

pub in_one : {A : Type 0} (x y : A) → Contains (x ∷ []) y → x ≡ y
in_one x y is = ⊎_elim (λ e. e) (in_none y) (in_cons x y [] is)

pub get_contains : {A : Type 0} (xs : List A) (k : ℕ) (x : A) → slice_get xs k ≡ Some x → Contains xs x
get_contains xs k x e = (k, slice_get_within xs k x e, get_or_from_slice_get xs k x x e)

pub number_of : {A : Type 0} (xs : List A) (x : A) → Contains xs x → (k : ℕ) × (slice_get xs k ≡ Some x)
number_of xs x is = (is.0, slice_get_read xs (length xs) is.0 x refl is.1 (sym is.2))

pub in_front : {A : Type 0} (n : ℕ) (xs : List A) (x : A) → Contains (take n xs) x → Contains xs x
in_front n xs x = All-contains (Contains xs) (take n xs) x (All-take (Contains xs) n xs (All-contains_itself xs))

-- ---- those that pass a test

pub filtered : {A : Type 0} (p : A → Bool) (xs : List A) (x : A) → Contains (filter p xs) x → Contains xs x
filtered p xs x = All-contains (Contains xs) (filter p xs) x (All-filter p (Contains xs) xs (All-contains_itself xs))

pub passed : {A : Type 0} (p : A → Bool) (xs : List A) (x : A) → Contains (filter p xs) x → p x ≡ true
passed p xs x = All-contains (λ y. p y ≡ true) (filter p xs) x (filter_passes p xs)

pub kept_in : {A : Type 0} (p : A → Bool) (xs : List A) (x : A) → Contains xs x → p x ≡ true → Contains (filter p xs) x
kept_in p [] x is e = in_none x is
kept_in {A} p (y ∷ xs) x is e = if_known (λ (ys : List A). Contains ys x) (p y)
    (λ passes. ⊎_elim (λ same. (0, omega arith, same)) (λ later. in_tail y x (filter p xs) (kept_in p xs x later e)) (in_cons y x xs is))
    (λ fails. ⊎_elim (λ same. absurd (both_ways (p x) (ap p (sym same) ∙ fails) e)) (λ later. kept_in p xs x later e) (in_cons y x xs is))

pub none_pass : {A : Type 0} (p : A → Bool) (xs : List A) → ((x : A) → Contains xs x → p x ≡ false) → filter p xs ≡ []
none_pass p [] none = refl
none_pass p (x ∷ xs) none = cond-false (p x) _ _ (none x (in_head x xs)) ∙ none_pass p xs (λ y is. none y (in_tail x y xs is))

pub all_pass : {A : Type 0} (p : A → Bool) (xs : List A) → ((x : A) → Contains xs x → p x ≡ true) → filter p xs ≡ xs
all_pass p [] all = refl
all_pass {A} p (x ∷ xs) all =
    cond-true (p x) _ _ (all x (in_head x xs)) ∙ ap (λ (ys : List A). x ∷ ys) (all_pass p xs (λ y is. all y (in_tail x y xs is)))

-- one that passes, where any does
pub any_at : {A : Type 0} (p : A → Bool) (xs : List A) → list_any p xs ≡ true → (x : A) × Contains xs x × (p x ≡ true)
any_at p xs e = let is = Any-from_list_any p xs e in (is.1, (is.0, is.2, is.3), is.4)

-- ---- what lists are mapped to

pub in_map : {A B : Type 0} (f : A → B) (xs : List A) (x : A) → Contains xs x → Contains (map f xs) (f x)
in_map f xs x is = (is.0, omega (arith, length-map xs f, is.1), get_or-map f xs is.0 x (f x) is.1 ∙ ap f is.2)

pub of_map : {A B : Type 0} (f : A → B) (xs : List A) (y : B) → Contains (map f xs) y → (x : A) × Contains xs x × (f x ≡ y)
of_map f [] y is = in_none y is
of_map f (x ∷ xs) y is = ⊎_elim
    (λ e. (x, in_head x xs, e))
    (λ later. let there = of_map f xs y later in (there.0, in_tail x there.0 xs there.1, there.2))
    (in_cons (f x) y (map f xs) is)

-- what holds of each element's image holds of each image
pub each_mapped : {A B : Type 0} (P : B → Type 0) (f : A → B) (xs : List A) → ((x : A) → Contains xs x → P (f x))
    → (y : B) → Contains (map f xs) y → P y
each_mapped P f xs holds y is = let there = of_map f xs y is in subst P there.2 (holds there.0 there.1)

pub in_flat : {A B : Type 0} (f : A → List B) (xs : List A) (x : A) (y : B) → Contains xs x → Contains (f x) y → Contains (flat_map f xs) y
in_flat f [] x y is there = in_none x is
in_flat {A} f (z ∷ xs) x y is there = ⊎_elim
    (λ e. Contains-append_left (f z) (flat_map f xs) y (subst (λ (v : A). Contains (f v) y) (sym e) there))
    (λ later. Contains-append_right (f z) (flat_map f xs) y (in_flat f xs x y later there))
    (in_cons z x xs is)

pub of_flat_map : {A B : Type 0} (f : A → List B) (xs : List A) (y : B) → Contains (flat_map f xs) y → (x : A) × Contains xs x × Contains (f x) y
of_flat_map f [] y is = in_none y is
of_flat_map f (x ∷ xs) y is = ⊎_elim
    (λ here. (x, in_head x xs, here))
    (λ later. let there = of_flat_map f xs y later in (there.0, in_tail x there.0 xs there.1, there.2))
    (Contains-append_cases (f x) (flat_map f xs) y is)
