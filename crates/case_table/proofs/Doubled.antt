-- The least doubled key, and whether there is one, told by the counts of the keys.
use Rattle.std.proofs.Common.{◌≡◌, ◌∙◌, ℕ, ◌<◌, ◌≤◌, ◌&&◌, Bool, true, false, not, cond, List, [], ◌∷◌, map, min, Some, None, refl, ap, subst, inl, inr, arith}
use Rattle.std.specs.List.{AllByRecursion, count_by, filter, fold, list_all, reduce}
use Rattle.std.specs.Option.{is_none}
use Rattle.std.proofs.lemmas.Bool.{cases_lt, ltb-true, lt-ltb}
use Rattle.std.proofs.lemmas.Bool.Decides.{eqb_tells}
use Rattle.std.proofs.lemmas.List.Elements.{filter_passes, recursion_from_All}
use Rattle.case_table.specs.declared.Row.{Row}
use Rattle.case_table.specs.Rows.{IsLeastDoubled, doubled_keys, has_key, is_doubled}

-- each row's key fails a test exactly where none of the keys that pass it is the least
pub none_pass : (p : ℕ → Bool) (rows : List Row) → list_all (λ row. not (p row.key)) rows ≡ is_none (reduce min (filter p (map (λ row. row.key) rows)))
none_pass p [] = refl
none_pass p (row ∷ rows) =
    let keys : List ℕ = filter p (map (λ (r : Row). r.key) rows) in
    elim (p row.key) as (λ b. (not b && list_all (λ (r : Row). not (p r.key)) rows) ≡ is_none (reduce min (cond b (row.key ∷ keys) keys))) [
      | true ↦ refl
      | false ↦ none_pass p rows
    ]

-- the least of two numbers has what both have
min_has : (P : ℕ → Type 0) (a b : ℕ) → P a → P b → P (min a b)
min_has P a b ha hb = elim (cases_lt a b) [
  | inl below ↦ let e : a ≡ min a b = omega arith in subst P e ha
  | inr above ↦ let e : b ≡ min a b = omega arith in subst P e hb
]

-- the least of some numbers has what each of them has
fold_min_has : (P : ℕ → Type 0) (a : ℕ) (xs : List ℕ) → P a → AllByRecursion P xs → P (fold min a xs)
fold_min_has P a [] first rest = first
fold_min_has P a (x ∷ xs) first rest = fold_min_has P (min a x) xs (min_has P a x first rest.0) rest.1

-- the least of some numbers is at most each of them
fold_min_le : (a : ℕ) (xs : List ℕ) → AllByRecursion (λ x. fold min a xs ≤ x) (a ∷ xs)
fold_min_le a [] = (omega arith, tt)
fold_min_le a (x ∷ xs) =
    let rest = fold_min_le (min a x) xs in
    (omega (arith, rest.0), (omega (arith, rest.0), rest.1))

-- the least of some numbers, if there are any, has what each of them has
reduced_has : (P : ℕ → Type 0) (xs : List ℕ) (least : ℕ) → reduce min xs ≡ Some least → AllByRecursion P xs → P least
reduced_has P [] least e all = cc
reduced_has P (x ∷ xs) least e all = let same : fold min x xs ≡ least = cc in subst P same (fold_min_has P x xs all.0 all.1)

-- it is at most each of them
reduced_le : (xs : List ℕ) (least : ℕ) → reduce min xs ≡ Some least → AllByRecursion (λ x. least ≤ x) xs
reduced_le [] least e = tt
reduced_le (x ∷ xs) least e =
    let same : fold min x xs ≡ least = cc in
    subst (λ (m : ℕ). AllByRecursion (λ y. m ≤ y) (x ∷ xs)) same (fold_min_le x xs)

-- where there is no least one, there are none
reduced_none : (xs : List ℕ) → reduce min xs ≡ None → AllByRecursion (λ _. ⊥) xs
reduced_none [] e = tt
reduced_none (x ∷ xs) e = cc

-- what holds of each number of a list holds of the first, if it is there, and of the others
front_of : (Q : ℕ → Type 0) (b : Bool) (x : ℕ) (xs : List ℕ) → AllByRecursion Q (cond b (x ∷ xs) xs) → (b ≡ true → Q x) × AllByRecursion Q xs
front_of Q true x xs all = (λ e. all.0, all.1)
front_of Q false x xs all = (λ e. cc, all)

-- what holds of each key that passes a test holds of a key that a row has and that passes
holds_at_key : (Q : ℕ → Type 0) (p : ℕ → Bool) (key : ℕ) (rows : List Row) → p key ≡ true → 0 < count_by (has_key key) rows → AllByRecursion Q (filter p (map (λ row. row.key) rows)) → Q key
holds_at_key Q p key [] passes some all = absurd (omega arith)
holds_at_key Q p key (row ∷ rows) passes some all =
    let parts = front_of Q (p row.key) row.key (filter p (map (λ (r : Row). r.key) rows)) all in
    elim (eqb_tells row.key key) [
      | inl same ↦ subst Q same.1 (parts.0 (ap p same.1 ∙ passes))
      | inr other ↦ holds_at_key Q p key rows passes (omega (arith, rw other.0 at some)) parts.1
    ]

-- the least of the doubled keys
pub least_of_doubled : (rows : List Row) (key : ℕ) → reduce min (doubled_keys rows) ≡ Some key → IsLeastDoubled rows key
least_of_doubled rows key e = record {
  doubled = ltb-true 1 _ (reduced_has (λ k. is_doubled rows k ≡ true) (doubled_keys rows) key e (recursion_from_All _ _ (filter_passes (is_doubled rows) _)));
  least = λ other more. holds_at_key (λ k. key ≤ k) (is_doubled rows) other rows (lt-ltb 1 _ more) (omega arith) (reduced_le (doubled_keys rows) key e);
}

-- where there is no least one, no key is doubled
pub none_is_doubled : (rows : List Row) (key : ℕ) → reduce min (doubled_keys rows) ≡ None → IsLeastDoubled rows key → ⊥
none_is_doubled rows key e least =
    let more = least.doubled in
    holds_at_key (λ _. ⊥) (is_doubled rows) key rows (lt-ltb 1 _ more) (omega arith) (reduced_none (doubled_keys rows) e)

-- there is one least doubled key
pub one_least : (rows : List Row) (a b : ℕ) → IsLeastDoubled rows a → IsLeastDoubled rows b → a ≡ b
one_least rows a b ha hb = omega (arith, ha.least b hb.doubled, hb.least a ha.doubled)
