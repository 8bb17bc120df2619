-- Lists, place by place.
use Rattle.std.proofs.Common.{◌≡◌, ℕ, zero, suc, ◌+◌, List, [], ◌∷◌, drop, Some, None, refl, ap, ◌∙◌, slice_get}
use Rattle.cgf_jobs.proofs.Names.{drop_more, get_or_from_slice_get, slice_get_within}

-- the rest of a list from a place on
pub rest_at : {X : Type 0} (xs : List X) (i : ℕ) (x : X) → slice_get xs i ≡ Some x → drop i xs ≡ x ∷ drop (i + 1) xs
rest_at xs i x at = drop_more xs i x (slice_get_within xs i x at) ∙ ap (λ (z : _). z ∷ drop (i + 1) xs) (get_or_from_slice_get xs i x x at)

pub none_at : {X : Type 0} (xs : List X) (i : ℕ) → slice_get xs i ≡ None → drop i xs ≡ []
none_at [] zero none = refl
none_at [] (suc i) none = refl
none_at (y ∷ xs) zero none = cc
none_at (y ∷ xs) (suc i) none = none_at xs i none
