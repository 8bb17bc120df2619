-- Sums over the views of all seats, of which one changes.
use Rattle.std.proofs.Common.{◌≡◌, ◌≢◌, ⊎_elim, ℕ, zero, suc, ◌+◌, ◌≤◌, List, [], ◌∷◌, ◌++◌, All, length, set, sum_by, refl, sym, ap, subst, length-append, arith}
use mathlib.Core.Option.{some, some-injective, some-ne-none}
use lib.ListN.{get_elem?}
use Rattle.std.proofs.lemmas.List.Elements.{All-append, All-nil}
use Rattle.std.proofs.lemmas.List.Sums.{sum_by-append, sum_by-cons}
use Rattle.crossbeam_queue.proofs.Lists.{at_set, at_snoc}
use Rattle.job_inbox.specs.declared.hand.Hand.{Hand}
use Rattle.job_inbox.specs.declared.hand.Hands.{Hands}
use Rattle.job_inbox.specs.Rule.{count, over}

module _ {A : Type 0} (f : A → ℕ) where
  pub total_set : (xs : List A) (port : ℕ) (v w : A) → get_elem? xs port ≡ some v →
      sum_by f (set xs port w) + f v ≡ sum_by f xs + f w
  total_set [] port v w at = absurd (some-ne-none v (sym at))
  total_set (x ∷ xs) zero v w at =
      let same : f x ≡ f v = ap f (some-injective x v at) in
      omega (arith, sum_by-cons f w xs, sum_by-cons f x xs)
  total_set (x ∷ xs) (suc port) v w at =
      let rest = total_set xs port v w at in
      omega (arith, sum_by-cons f x (set xs port w), sum_by-cons f x xs)

  pub total_ge : (xs : List A) (port : ℕ) (v : A) → get_elem? xs port ≡ some v → f v ≤ sum_by f xs
  total_ge [] port v at = absurd (some-ne-none v (sym at))
  total_ge (x ∷ xs) zero v at =
      let same : f x ≡ f v = ap f (some-injective x v at) in
      omega (arith, sum_by-cons f x xs)
  total_ge (x ∷ xs) (suc port) v at =
      let rest = total_ge xs port v at in
      omega (arith, sum_by-cons f x xs)

-- where one seat has all passes, a sum over all is one over what is here
module _ (f : Hand → ℕ) where
  of_none : (hands : List Hand) → length hands ≡ 0 → sum_by f hands ≡ 0
  of_none [] none = refl
  of_none (h ∷ hands) none = absurd (omega arith)

  of_nobody : (views : List Hands) → sum_by count views ≡ 0 → sum_by (over f) views ≡ 0
  of_nobody [] none = refl
  of_nobody (v ∷ views) none =
      let sums = sum_by-cons count v views in
      let here : over f v ≡ 0 = of_none v.hands (omega arith) in
      let rest : sum_by (over f) views ≡ 0 = of_nobody views (omega arith) in
      omega (arith, sum_by-cons (over f) v views)

  pub total_only : (views : List Hands) (port : ℕ) (v : Hands) → get_elem? views port ≡ some v →
      sum_by count views ≡ count v → sum_by (over f) views ≡ over f v
  total_only [] port v at all = absurd (some-ne-none v (sym at))
  total_only (x ∷ views) zero v at all =
      let sums = sum_by-cons count x views in
      let same : x ≡ v = some-injective x v at in
      let counts : count x ≡ count v = ap count same in
      let rest : sum_by (over f) views ≡ 0 = of_nobody views (omega arith) in
      let own : over f x ≡ over f v = ap (λ (u : Hands). over f u) same in
      omega (arith, sum_by-cons (over f) x views)
  total_only (x ∷ views) (suc port) v at all =
      let sums = sum_by-cons count x views in
      let there = total_ge count views port v at in
      let here : over f x ≡ 0 = of_none x.hands (omega arith) in
      let rest : sum_by (over f) views ≡ over f v = total_only views port v at (omega arith) in
      omega (arith, sum_by-cons (over f) x views)

-- each seat knows something
abbrev pub Each : (Hands → Type 0) → List Hands → Type 0
Each P views = (port : ℕ) (v : Hands) → get_elem? views port ≡ some v → P v

pub each_set : (P : Hands → Type 0) (views : List Hands) (port : ℕ) (w : Hands) → P w → Each P views → Each P (set views port w)
each_set P views port w mine others j u e =
    ⊎_elim
    (λ (x : (j ≡ port) × (w ≡ u)). subst P x.1 mine)
    (λ (x : (j ≢ port) × (get_elem? views j ≡ some u)). others j u x.1)
    (at_set views port j w u e)

pub each_snoc : (P : Hands → Type 0) (views : List Hands) (w : Hands) → P w → Each P views → Each P (views ++ w ∷ [])
each_snoc P views w mine others j u e =
    ⊎_elim
    (λ (x : get_elem? views j ≡ some u). others j u x)
    (λ (is : w ≡ u). subst P is mine)
    (at_snoc views w u j e)

-- what all did, in one list
abbrev pub all_hands : List Hands → List Hand
all_hands [] = []
all_hands (v ∷ views) = v.hands ++ all_hands views

pub sum_of_all : (f : Hand → ℕ) (views : List Hands) → sum_by f (all_hands views) ≡ sum_by (over f) views
sum_of_all f [] = refl
sum_of_all f (v ∷ views) =
    let rest = sum_of_all f views in
    omega (arith, sum_by-append f v.hands (all_hands views), sum_by-cons (over f) v views)

pub length_of_all : (views : List Hands) → length (all_hands views) ≡ sum_by count views
length_of_all [] = refl
length_of_all (v ∷ views) =
    let rest = length_of_all views in
    omega (arith, length-append v.hands (all_hands views), sum_by-cons count v views)

pub each_of_all : (P : Hand → Type 0) (views : List Hands) → Each (λ v. All P v.hands) views → All P (all_hands views)
each_of_all P [] each = All-nil P
each_of_all P (v ∷ views) each =
    All-append P v.hands (all_hands views) (each zero v refl) (each_of_all P views (λ port. each (suc port)))
