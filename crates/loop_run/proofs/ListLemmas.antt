-- Lists that grow by one at their end, by place.
use Rattle.std.proofs.Common.{◌≡◌, ◌⊎◌, ⊎_elim, inl, inr, ℕ, zero, suc, List, [], ◌∷◌, ◌++◌, length, take, Option, None, Some, refl, sym}
use Rattle.loop_run.proofs.Names.{All, All-cons, All-nil, none-some, same_Some, slice_get}
use Rattle.std.proofs.Math.Seq.{take-append_seam}

module _ {X : Type 0} where
  pub some_none : (x : X) → ◌≡◌ {A = Option X} (Some x) None → ⊥
  some_none x e = cc

  pub none_get : (place : ℕ) {x : X} → slice_get [] place ≡ Some x → ⊥
  none_get place e = cc

  pub get_pushed : (xs : List X) (x : X) (k : ℕ) {y : _} → slice_get (xs ++ x ∷ []) k ≡ Some y
      → (slice_get xs k ≡ Some y) ⊎ ((k ≡ length xs) × (y ≡ x))
  get_pushed [] x zero {y} e = inr (refl, sym (same_Some x y e))
  get_pushed [] x (suc k) {y} e = absurd (none-some y e)
  get_pushed (z ∷ xs) x zero e = inl e
  get_pushed (z ∷ xs) x (suc k) {y} e = ⊎_elim (λ (before : slice_get xs k ≡ Some y). inl before)
      (λ (last : (k ≡ length xs) × (y ≡ x)). inr (cc last.0, last.1)) (get_pushed xs x k e)

  pub get_last : (xs : List X) (x : X) → slice_get (xs ++ x ∷ []) (length xs) ≡ Some x
  get_last [] x = refl
  get_last (z ∷ xs) x = get_last xs x

  pub get_before : (xs ys : List X) (k : ℕ) {y : _} → slice_get xs k ≡ Some y → slice_get (xs ++ ys) k ≡ Some y
  get_before [] ys k {y} e = absurd (none-some y e)
  get_before (z ∷ xs) ys zero e = e
  get_before (z ∷ xs) ys (suc k) e = get_before xs ys k e

  pub all_by_place : (P : X → Type 0) (xs : List X) → ((k : ℕ) (x : X) → slice_get xs k ≡ Some x → P x) → All P xs
  all_by_place P [] each = All-nil P
  all_by_place P (x ∷ xs) each = All-cons P x xs (each 0 x refl) (all_by_place P xs (λ k y at. each (suc k) y at))

  pub length_pushed : (xs : List X) (x : X) → length (xs ++ x ∷ []) ≡ suc (length xs)
  length_pushed [] x = refl
  length_pushed (z ∷ xs) x = cc (length_pushed xs x)

  -- a list that was lent whole as a slice has what was written there
  pub lent_whole : (new rest : List X) (count : ℕ) → count ≡ length new → new ≡ take count (new ++ rest)
  lent_whole new rest count is = cc (take-append_seam new rest)
