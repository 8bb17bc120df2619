-- Places of unsealed files: empty ones more, and how many are taken.
use Rattle.std.proofs.Common.{◌≡◌, ◌≤◌, ℕ, zero, suc, ◌+◌, Bool, false, List, [], ◌∷◌, ◌++◌, length, map, None, Some, get_or, sum_by, refl, arith}
use Rattle.std.proofs.lemmas.List.Sums.{sum_by-append}
use Rattle.area_disk.specs.declared.plan.Outcome3.{Outcome3}
use Rattle.area_disk.specs.declared.plan.Outcome3.TheVariants.{Old}
use Rattle.cdr_shelf.specs.Files.{Unsealed, UnsealedFile}
use Rattle.cdr_shelf.specs.Holding.{is_there}
use Rattle.cdr_shelf.specs.Steps.{left_by, left_where}

-- an empty place more at the end
pub get_or-none : (places : List Unsealed) (k : ℕ) → get_or (places ++ None ∷ []) k None ≡ get_or places k None
get_or-none [] zero = refl
get_or-none [] (suc k) = refl
get_or-none (p ∷ places) zero = refl
get_or-none (p ∷ places) (suc k) = get_or-none places k

is_there-left_where : (b : Bool) (outcome : Outcome3) (f : UnsealedFile) → is_there (left_where b outcome f) ≤ 1
is_there-left_where false Old f = omega arith
is_there-left_where _ _ f = omega arith

is_there-left_by : (outcome : Outcome3) (place : Unsealed) → is_there (left_by outcome place) ≤ is_there place
is_there-left_by outcome None = omega arith
is_there-left_by outcome (Some f) = is_there-left_where f.is_synced outcome f

-- a stop leaves no file more
pub there-left_by : (outcome : Outcome3) (places : List Unsealed) →
    sum_by is_there (map (left_by outcome) places) ≤ sum_by is_there places
there-left_by outcome [] = omega arith
there-left_by outcome (p ∷ places) =
    let left = map (left_by outcome) places in
    let old : sum_by is_there (p ∷ places) ≡ 0 + is_there p + sum_by is_there places =
    sum_by-append is_there (p ∷ []) places in
    let new : sum_by is_there (left_by outcome p ∷ left) ≡ 0 + is_there (left_by outcome p) + sum_by is_there left =
    sum_by-append is_there (left_by outcome p ∷ []) left in
    omega (arith, old, new, is_there-left_by outcome p, there-left_by outcome places)

is_there-one : (place : Unsealed) → is_there place ≤ 1
is_there-one None = omega arith
is_there-one (Some f) = omega arith

-- no more files than places
pub there-le-length : (places : List Unsealed) → sum_by is_there places ≤ length places
there-le-length [] = omega arith
there-le-length (p ∷ places) =
    let sum : sum_by is_there (p ∷ places) ≡ 0 + is_there p + sum_by is_there places =
    sum_by-append is_there (p ∷ []) places in
    let size : length (p ∷ places) ≡ suc (length places) = refl in
    omega (arith, sum, size, is_there-one p, there-le-length places)
