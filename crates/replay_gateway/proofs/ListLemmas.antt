-- Lists that are read place by place, and what a filter picks of a list that grows.
use Rattle.std.proofs.Common.{◌≡◌, All, subst, Bool, cond, ℕ, zero, suc, ◌+◌, ◌≤◌, List, [], ◌∷◌, ◌++◌, length, take, drop, map, filter, Option, Some, None, option_map, slice_get, arith}
use Rattle.replay_gateway.proofs.Names.{drop_all, drop_more, get_or_from_slice_get, slice_get_within, take_more}

-- the rest of a list from a place on
pub rest_at : {X : Type 0} (xs : List X) (i : ℕ) {x : _} → slice_get xs i ≡ Some x → drop i xs ≡ x ∷ drop (i + 1) xs
rest_at xs i {x} at = cc (drop_more xs i x (slice_get_within xs i x at), get_or_from_slice_get xs i x x at)

pub none_beyond : {A : Type 0} (xs : List A) (k : ℕ) → slice_get xs k ≡ None → length xs ≤ k
none_beyond [] k is = omega arith
none_beyond (x ∷ xs) zero is = cc
none_beyond (x ∷ xs) (suc k) is = omega (arith, (none_beyond xs k is))

pub none_at : {X : Type 0} (xs : List X) (i : ℕ) → slice_get xs i ≡ None → drop i xs ≡ []
none_at xs i none = drop_all i xs (none_beyond xs i none)

-- the first elements, and the next one
pub take_next : {X : Type 0} (xs : List X) (k : ℕ) {x : _} → slice_get xs k ≡ Some x →
    take (suc k) xs ≡ take k xs ++ x ∷ []
take_next xs k {x} is =
    let next : suc k ≡ k + 1 = omega arith in
    cc (take_more xs k x (slice_get_within xs k x is), get_or_from_slice_get xs k x x is)

-- what holds of each element holds of the one in a place
pub all_at : {X : Type 0} (P : X → Type 0) (xs : List X) (i : ℕ) {x : _} → All P xs → slice_get xs i ≡ Some x → P x
all_at P xs i {x} all at = subst P (get_or_from_slice_get xs i x x at) (all i x (slice_get_within xs i x at))

-- what a value is mapped from
pub mapped_from : {A B : Type 0} (f : A → B) (o : Option A) {y : _} → Some y ≡ option_map f o →
    (x : A) × (o ≡ Some x) × (y ≡ f x)
mapped_from f o is = grind arith

pub mapped_none : {A B : Type 0} (f : A → B) (o : Option A) → None ≡ option_map f o → o ≡ None
mapped_none f o is = grind arith

picked_by : {A B : Type 0} (f : A → B) (y : A) (more xs : List A) (last : List B) (b : Bool) →
    map f more ≡ map f xs ++ last → map f (cond b (y ∷ more) more) ≡ map f (cond b (y ∷ xs) xs) ++ last
picked_by f y more xs last b is = grind arith

-- one element more, seen by a function
pub picked : {A B : Type 0} (p : A → Bool) (f : A → B) (xs : List A) (x : A) →
    map f (filter p (xs ++ x ∷ [])) ≡ map f (filter p xs) ++ cond (p x) (f x ∷ []) []
picked p f [] x = grind arith
picked p f (y ∷ xs) x = picked_by f y _ _ _ _ (picked p f xs x)
