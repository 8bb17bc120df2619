-- No two records that nodes were given have one key: what is filed, and so what stands at a place, counts for one of them.
use Rattle.std.proofs.Common.{◌≡◌, ℕ, ◌≤◌, ◌==◌, true, cond, List, filter, map, Some, slice_get, refl, arith, sum_by, take, ◌<◌, ⊎_elim}
use Rattle.once_core.proofs.Names.{cases_order, common_steps, FiledRecord, Followed, get_or-le-sum_by, get_or-take, get_or_from_slice_get, is_record_of, is_sum_by, nat_tests, PacketKey, PacketState, slice_get_within, sum_by_more_le, uses, uses_by_copies}

-- the key and the index of a filed record
pub key_of : (key : PacketKey) (index : ℕ) (filing : FiledRecord) → is_record_of key index filing ≡ true
    → (filing.key ≡ key) × (filing.index ≡ index)
key_of key index filing is = grind (arith, nat_tests)

-- a sum of one at most counts no two places
two_count : {A : Type 0} (w : A → ℕ) (xs : List A) → sum_by w xs ≤ 1 → (k l : ℕ) (p q : A) → k < l
    → slice_get xs k ≡ Some p → slice_get xs l ≡ Some q → 1 ≤ w p → 1 ≤ w q → ⊥
two_count {A} w xs one k l p q less at_k at_l use_p use_q = grind (
  arith,
  common_steps,
  slice_get_within xs l q at_l,
  slice_get_within xs k p at_k,
  sum_by_more_le w xs l q,
  get_or-le-sum_by w (take l xs) k p,
  get_or-take {A = A},
  get_or_from_slice_get xs k p p at_k,
  get_or_from_slice_get xs l q q at_l,
)

-- ---- packets of one start

module _ (gateway number start : ℕ) where
  abbrev of_start : List Followed → List PacketState
  of_start xs = map (λ (p : Followed). p.state) (filter (λ p. p.start == start) xs)

  abbrev used : Followed → ℕ
  used p = uses_by_copies gateway number p.state.copies

  abbrev counted : Followed → ℕ
  counted p = cond (p.start == start) (used p) 0

  total : (xs : List Followed) → uses gateway number (of_start xs) ≡ sum_by counted xs
  total = is_sum_by (λ (xs : List Followed). uses gateway number (of_start xs)) counted refl (λ p xs. grind arith)

  counts : (p : Followed) → p.start ≡ start → 1 ≤ used p → 1 ≤ counted p
  counts p same some = grind (arith, nat_tests)

  -- two packets of the start that use a number which has one use stand in one place
  pub one_place : (xs : List Followed) → uses gateway number (of_start xs) ≤ 1 → (k l : ℕ) (p q : Followed)
      → slice_get xs k ≡ Some p → slice_get xs l ≡ Some q → p.start ≡ start → q.start ≡ start → 1 ≤ used p → 1 ≤ used q
      → k ≡ l
  one_place xs one k l p q at_k at_l same_p same_q use_p use_q =
      let once : sum_by counted xs ≤ 1 = omega (arith, one, total xs) in
      ⊎_elim (λ same. same) (λ apart. absurd (⊎_elim
      (λ less. two_count counted xs once k l p q less at_k at_l (counts p same_p use_p) (counts q same_q use_q))
      (λ more. two_count counted xs once l k q p more at_l at_k (counts q same_q use_q) (counts p same_p use_p)) apart))
      (cases_order k l)
