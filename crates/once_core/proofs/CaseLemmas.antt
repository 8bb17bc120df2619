-- Cases of a test, of an option, and of a place in a list.
use Rattle.std.proofs.Common.{◌≡◌, ◌≢◌, ℕ, zero, suc, Bool, true, false, if◌then◌else◌, List, [], ◌∷◌, Option, Some, None, slice_get, slice_set, refl, arith}
use Rattle.std.specs.Option.{option_map_or}

-- what holds both ways holds of the choice
pub if_both : {A : Type 0} (P : A → Type 0) (b : Bool) {x y : A} → P x → P y → P (if b then x else y)
if_both P true holds other = holds
if_both P false other holds = holds

-- the same where each way may ask how the test came out
pub if_known : {A : Type 0} (P : A → Type 0) (b : Bool) {x y : A} → (b ≡ true → P x) → (b ≡ false → P y) → P (if b then x else y)
if_known P true holds other = holds refl
if_known P false other holds = holds refl

pub by_bool : (P : Bool → Type 0) (b : Bool) → (b ≡ true → P true) → (b ≡ false → P false) → P b
by_bool P true holds other = holds refl
by_bool P false other holds = holds refl

pub by_option : {A : Type 0} (P : Option A → Type 0) (o : Option A) → (o ≡ None → P None) → ((x : A) → o ≡ Some x → P (Some x)) → P o
by_option P None none some = none refl
by_option P (Some x) none some = some x refl

-- the same of what an option is mapped to
pub map_known : {A B : Type 0} (P : B → Type 0) (o : Option A) {f : A → B} {d : B} → (o ≡ None → P d) → ((x : A) → o ≡ Some x → P (f x)) → P (option_map_or f o d)
map_known P None none some = none refl
map_known P (Some x) none some = some x refl

-- a list with another element in a place: what holds of that one there, and of the others, holds in each place
pub set_known : {A : Type 0} (xs : List A) (p : ℕ) (x y : A) → slice_get xs p ≡ Some y → (P : ℕ → Option A → Type 0) → P p (Some x)
    → ((q : ℕ) → q ≢ p → P q (slice_get xs q)) → (q : ℕ) → P q (slice_get (slice_set xs p x) q)
set_known [] p x y there P here others q = absurd (cc)
set_known (z ∷ xs) zero x y there P here others zero = here
set_known (z ∷ xs) zero x y there P here others (suc q) = others (suc q) (λ same. absurd (omega (arith, same)))
set_known (z ∷ xs) (suc p) x y there P here others zero = others zero (λ same. absurd (omega (arith, same)))
set_known (z ∷ xs) (suc p) x y there P here others (suc q) =
    set_known xs p x y there (λ k. P (suc k)) here (λ k apart. others (suc k) (λ same. apart (omega (arith, same)))) q
