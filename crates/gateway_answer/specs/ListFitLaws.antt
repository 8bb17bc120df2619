-- The held ones of some numbers, each once, are a fit list.
use Rattle.std.proofs.Common.{◌≡◌, ℕ, ◌==◌, ◌||◌, not, Bool, true, false, cond, if◌then◌else◌, List, [], ◌∷◌, filter, map, refl, ap}
use Rattle.std.proofs.lemmas.Bool.{and_from, and_parts, false≢true}
use Rattle.std.specs.List.{list_all, list_any}
use Rattle.gw_base.specs.Lists.{once}
use Rattle.gw_base.specs.Observed.{Observed}
use Rattle.gw_base.specs.declared.key_state.KeyState.{KeyState}
use Rattle.transfer_cmd.specs.Lists.{is_held, is_wrong, verdict_of}
use Rattle.transfer_cmd.specs.declared.verdict.Verdict.{Verdict}
use Rattle.transfer_cmd.specs.declared.verdict.Verdict.TheVariants.{Wrong, Before, Change}
use Rattle.gateway_answer.specs.Asked.{held_ones}
use Rattle.gateway_answer.specs.Fit.{are_distinct, is_list_fit}

pub all_filtered : (p : ℕ → Bool) (xs : List ℕ) → list_all p (filter p xs) ≡ true
all_filtered p [] = refl
all_filtered p (x ∷ xs) = by_test (p x) refl (all_filtered p xs)
  where
    by_test : (b : Bool) → p x ≡ b → list_all p (filter p xs) ≡ true → list_all p (cond b (x ∷ filter p xs) (filter p xs)) ≡ true
    by_test true e rest = and_from (p x) (list_all p (filter p xs)) e rest
    by_test false e rest = rest

pub all_kept : (p q : ℕ → Bool) (xs : List ℕ) → list_all p xs ≡ true → list_all p (filter q xs) ≡ true
all_kept p q [] all = refl
all_kept p q (x ∷ xs) all = let parts = and_parts (p x) (list_all p xs) all in by_test (q x) parts.0 (all_kept p q xs parts.1)
  where
    by_test : (b : Bool) → p x ≡ true → list_all p (filter q xs) ≡ true → list_all p (cond b (x ∷ filter q xs) (filter q xs)) ≡ true
    by_test true here rest = and_from (p x) (list_all p (filter q xs)) here rest
    by_test false here rest = rest

pub all_once : (p : ℕ → Bool) (xs : List ℕ) → list_all p xs ≡ true → list_all p (once (λ x y. x == y) xs) ≡ true
all_once p [] all = refl
all_once p (x ∷ xs) all =
    let parts = and_parts (p x) (list_all p xs) all in
    and_from (p x) (list_all p (filter (λ y. not (x == y)) (once (λ x y. x == y) xs))) parts.0
    (all_kept p (λ y. not (x == y)) (once (λ x y. x == y) xs) (all_once p xs parts.1))

distinct_kept : (q : ℕ → Bool) (xs : List ℕ) → are_distinct xs ≡ true → are_distinct (filter q xs) ≡ true
distinct_kept q [] all = refl
distinct_kept q (x ∷ xs) all =
    let parts = and_parts (list_all (λ y. not (x == y)) xs) (are_distinct xs) all in by_test (q x) parts.0 (distinct_kept q xs parts.1)
  where
    by_test : (b : Bool) → list_all (λ y. not (x == y)) xs ≡ true → are_distinct (filter q xs) ≡ true → are_distinct (cond b (x ∷ filter q xs) (filter q xs)) ≡ true
    by_test true apart rest =
        and_from (list_all (λ y. not (x == y)) (filter q xs)) (are_distinct (filter q xs)) (all_kept (λ y. not (x == y)) q xs apart) rest
    by_test false apart rest = rest

pub distinct_once : (xs : List ℕ) → are_distinct (once (λ x y. x == y) xs) ≡ true
distinct_once [] = refl
distinct_once (x ∷ xs) =
    and_from (list_all (λ y. not (x == y)) (filter (λ y. not (x == y)) (once (λ x y. x == y) xs)))
    (are_distinct (filter (λ y. not (x == y)) (once (λ x y. x == y) xs)))
    (all_filtered (λ y. not (x == y)) (once (λ x y. x == y) xs))
    (distinct_kept (λ y. not (x == y)) (once (λ x y. x == y) xs) (distinct_once xs))

-- there is a number
abbrev has_some : List ℕ → Bool
has_some [] = false
has_some (x ∷ xs) = true

some_held : (state : ℕ → KeyState) (xs : List ℕ) → list_any is_held (map state xs) ≡ true → has_some (once (λ x y. x == y) (filter (λ x. is_held (state x)) xs)) ≡ true
some_held state [] some = absurd (false≢true some)
some_held state (x ∷ xs) some = by_test (is_held (state x)) some (some_held state xs)
  where
    by_test : (b : Bool) → (b || list_any is_held (map state xs)) ≡ true
        → (list_any is_held (map state xs) ≡ true → has_some (once (λ x y. x == y) (filter (λ x. is_held (state x)) xs)) ≡ true)
        → has_some (once (λ x y. x == y) (cond b (x ∷ filter (λ x. is_held (state x)) xs) (filter (λ x. is_held (state x)) xs))) ≡ true
    by_test true some rest = refl
    by_test false some rest = rest some

fits_by : (o : Observed) (ys : List ℕ) → has_some ys ≡ true → list_all (λ y. is_held (o.state y)) ys ≡ true → are_distinct ys ≡ true → is_list_fit o ys ≡ true
fits_by o [] some held apart = absurd (false≢true some)
fits_by o (y ∷ ys) some held apart = and_from (list_all (λ z. is_held (o.state z)) (y ∷ ys)) (are_distinct (y ∷ ys)) held apart

-- the held ones of numbers of which one is held
pub held_ones_fit : (o : Observed) (xs : List ℕ) → list_any is_held (map o.state xs) ≡ true → is_list_fit o (held_ones o xs) ≡ true
held_ones_fit o xs some =
    fits_by o (held_ones o xs) (some_held o.state xs some)
    (all_once (λ x. is_held (o.state x)) (filter (λ x. is_held (o.state x)) xs) (all_filtered (λ x. is_held (o.state x)) xs))
    (distinct_once (filter (λ x. is_held (o.state x)) xs))

abbrev is_change : Verdict → Bool
is_change Wrong = false
is_change Before = false
is_change Change = true

-- a list whose verdict calls for an entry names a held number
pub change_is_held : (release : Bool) (states : List KeyState) → verdict_of release states ≡ Change → list_any is_held states ≡ true
change_is_held release [] e = absurd (false≢true (ap is_change e))
change_is_held release (s ∷ states) e = by_tests (list_any (is_wrong release) (s ∷ states)) (list_any is_held (s ∷ states)) e
  where
    by_tests : (wrong held : Bool) → (if wrong then Wrong else (if held then Change else Before)) ≡ Change → held ≡ true
    by_tests true held e = absurd (false≢true (ap is_change e))
    by_tests false true e = refl
    by_tests false false e = absurd (false≢true (ap is_change e))
