-- Copies in order, each once: where one is found, and what keeps the order.
use Rattle.std.proofs.Common.{◌≡◌, ℕ, zero, suc, ◌+◌, ◌<◌, ◌≤◌, ◌==◌, Bool, true, false, List, [], ◌∷◌, ◌++◌, None, length, take, drop, filter, nat_lt, ap, ◌∙◌, refl, inl, inr, arith}
use Rattle.std.specs.List.{find}
use Rattle.std.specs.List.Sorted.{IsNonDecreasingBy, IsPartitionPoint}
use Rattle.std.specs.Prelude.{slice_index_or}
use Rattle.std.proofs.lemmas.Bool.{and_parts, cases_eq, cases_lt, cases_order, cond_both, eqb-true, false_from_ne_true, ltb-false, ltb-true}
use Rattle.std.proofs.lemmas.List.{get_or_default}
use Rattle.dup_buffer.specs.Stored.{AreFrom, IsAbsent, IsFound, IsFrom, is_copy_of, rank, rank_of}
use Rattle.dup_buffer.specs.declared.copy.HeldCopy.{HeldCopy}

-- ---- tests of copies

pub key_of : (n k : ℕ) (copy : HeldCopy) → is_copy_of n k copy ≡ true → (copy.node ≡ n) × (copy.number ≡ k)
key_of n k copy e =
    let b = and_parts (copy.node == n) (copy.number == k) e in
    (eqb-true copy.node n b.0, eqb-true copy.number k b.1)

pub not_named : (n k : ℕ) (copy : HeldCopy) → (rank copy ≡ rank_of n k → ⊥) → is_copy_of n k copy ≡ false
not_named n k copy ne = false_from_ne_true (is_copy_of n k copy) (λ e. let b = key_of n k copy e in ne (λ i. rank_of (b.0 i) (b.1 i)))

pub none_found : (p : HeldCopy → Bool) (copies : List HeldCopy) → ((j : ℕ) (d : HeldCopy) → j < length copies → p (slice_index_or copies j d) ≡ false) → find p copies ≡ None
none_found p [] fails = refl
none_found p (copy ∷ copies) fails = rw (fails 0 copy (omega arith)) (none_found p copies (λ j d lt. fails (suc j) d (omega (arith, lt))))

-- ---- the order

weaker : (low high : ℕ) (copies : List HeldCopy) → low ≤ high → AreFrom high copies → AreFrom low copies
weaker low high [] le up = tt
weaker low high (copy ∷ copies) le up = (omega (arith, le, up.0), up.1)

lowest : (low : ℕ) (copies : List HeldCopy) → AreFrom low copies → (j : ℕ) (d : HeldCopy) → j < length copies → low ≤ rank (slice_index_or copies j d)
lowest low [] up j d lt = absurd (omega (arith, lt))
lowest low (copy ∷ copies) up zero d lt = up.0
lowest low (copy ∷ copies) up (suc j) d lt =
    let rest = lowest (rank copy + 1) copies up.1 j d (omega (arith, lt)) in
    omega (arith, up.0, rest)

ascending : (low : ℕ) (copies : List HeldCopy) → AreFrom low copies → (i j : ℕ) (d : HeldCopy) → i < j → j < length copies
    → rank (slice_index_or copies i d) < rank (slice_index_or copies j d)
ascending low [] up i j d lt within = absurd (omega (arith, within))
ascending low (copy ∷ copies) up i zero d lt within = absurd (omega (arith, lt))
ascending low (copy ∷ copies) up zero (suc j) d lt within =
    let rest = lowest (rank copy + 1) copies up.1 j d (omega (arith, within)) in
    omega (arith, rest)
ascending low (copy ∷ copies) up (suc i) (suc j) d lt within = ascending (rank copy + 1) copies up.1 i j d (omega (arith, lt)) (omega (arith, within))

pub ordered : (copies : List HeldCopy) → AreFrom 0 copies → IsNonDecreasingBy (λ (copy : HeldCopy). rank copy) copies
ordered copies up i j d le within = elim (cases_eq i j) [
  | inl e ↦ omega (arith, ap (λ (k : ℕ). rank (slice_index_or copies k d)) e)
  | inr ne ↦ omega (arith, ascending 0 copies up i j d (omega (arith, le, ne)) within)
]

pub from-filter : (p : HeldCopy → Bool) (low : ℕ) (copies : List HeldCopy) → AreFrom low copies → AreFrom low (filter p copies)
from-filter p low [] up = tt
from-filter p low (copy ∷ copies) up =
    let rest = from-filter p (rank copy + 1) copies up.1 in
    cond_both (p copy) (copy ∷ filter p copies) (filter p copies) (AreFrom low) (λ _. (up.0, rest))
    (λ _. weaker low (rank copy + 1) (filter p copies) (omega (arith, up.0)) rest)

pub from-remove : (low : ℕ) (copies : List HeldCopy) (at : ℕ) → AreFrom low copies → AreFrom low (take at copies ++ drop (suc at) copies)
from-remove low [] zero up = tt
from-remove low [] (suc at) up = tt
from-remove low (copy ∷ copies) zero up = weaker low (rank copy + 1) copies (omega (arith, up.0)) up.1
from-remove low (copy ∷ copies) (suc at) up = (up.0, from-remove (rank copy + 1) copies at up.1)

pub from-insert : (low : ℕ) (copies : List HeldCopy) (at : ℕ) (one : HeldCopy) → AreFrom low copies → at ≤ length copies → low ≤ rank one
    → ((j : ℕ) (d : HeldCopy) → j < at → rank (slice_index_or copies j d) < rank one)
    → ((j : ℕ) (d : HeldCopy) → at ≤ j → j < length copies → rank one < rank (slice_index_or copies j d))
    → AreFrom low (take at copies ++ one ∷ drop at copies)
from-insert low [] zero one up inside here before later = (here, tt)
from-insert low [] (suc at) one up inside here before later = absurd (omega (arith, inside))
from-insert low (copy ∷ copies) zero one up inside here before later =
    let next : rank one < rank copy = later 0 copy (omega arith) (omega arith) in
    (here, (omega (arith, next), up.1))
from-insert low (copy ∷ copies) (suc at) one up inside here before later =
    let first : rank copy < rank one = before 0 copy (omega arith) in (
      up.0,
      from-insert (rank copy + 1) copies at one up.1 (omega (arith, inside)) (omega (arith, first)) (λ j d lt. before (suc j) d (omega (arith, lt)))
          (λ j d le lt. later (suc j) d (omega (arith, le)) (omega (arith, lt))),
    )

-- ---- where a number belongs

pub from_point : (copies : List HeldCopy) (at q : ℕ) → at ≤ length copies
    → IsPartitionPoint (λ (k : HeldCopy). nat_lt (rank k) q ≡ true) (λ (k : HeldCopy). nat_lt (rank k) q ≡ false) copies at → IsFrom copies at q
from_point copies at q inside point = record {
  inside = inside;
  before = λ j d lt. ltb-true (rank (slice_index_or copies j d)) q (point.0 j d (omega arith) lt);
  later = λ j d le within. ltb-false (rank (slice_index_or copies j d)) q (point.1 j d le within);
}

absent_from : (copies : List HeldCopy) (at n k : ℕ) → IsFrom copies at (rank_of n k)
    → ((j : ℕ) (d : HeldCopy) → at ≤ j → j < length copies → rank_of n k < rank (slice_index_or copies j d)) →
    IsAbsent copies at n k
absent_from copies at n k from past = record {
  inside = from.inside;
  none = none_found (is_copy_of n k) copies (λ j d lt. not_named n k (slice_index_or copies j d)
      (λ q. elim (cases_lt j at) [
        | inl less ↦ omega (arith, q, from.before j d less)
        | inr le ↦ omega (arith, q, past j d le lt)
      ]));
  before = from.before;
  later = past;
}

pub absent_end : (copies : List HeldCopy) (at n k : ℕ) → at ≡ length copies → IsFrom copies at (rank_of n k) →
    IsAbsent copies at n k
absent_end copies at n k end from = absent_from copies at n k from
    (λ j d le within. absurd (omega (arith, le, within, end)))

pub found_at : (copies : List HeldCopy) (at n k : ℕ) (e : HeldCopy) → AreFrom 0 copies → at < length copies → IsFrom copies at (rank_of n k)
    → is_copy_of n k (slice_index_or copies at e) ≡ true → IsFound copies at n k
found_at copies at n k e up inside from named =
    record {
      inside = inside;
      named = λ d. ap (λ (c : HeldCopy). is_copy_of n k c) (get_or_default copies at d e inside) ∙ named;
      others = λ j d lt ne. not_named n k (slice_index_or copies j d) (λ q. apart j d lt ne q);
    }
  where
    here : (d : HeldCopy) → rank (slice_index_or copies at d) ≡ rank_of n k
    here d =
        let b = key_of n k (slice_index_or copies at e) named in
        ap (λ (c : HeldCopy). rank c) (get_or_default copies at d e inside) ∙ (λ i. rank_of (b.0 i) (b.1 i))

    apart : (j : ℕ) (d : HeldCopy) → j < length copies → (j ≡ at → ⊥) → rank (slice_index_or copies j d) ≡ rank_of n k → ⊥
    apart j d lt ne q = elim (cases_order j at) [
      | inl same ↦ ne same
      | inr (inl less) ↦ omega (arith, q, here d, ascending 0 copies up j at d less inside)
      | inr (inr more) ↦ omega (arith, q, here d, ascending 0 copies up at j d more lt)
    ]

pub absent_at : (copies : List HeldCopy) (at n k : ℕ) (e : HeldCopy) → AreFrom 0 copies → at < length copies → IsFrom copies at (rank_of n k)
    → (rank (slice_index_or copies at e) ≡ rank_of n k → ⊥) → IsAbsent copies at n k
absent_at copies at n k e up inside from apart = absent_from copies at n k from past
  where
    here : (d : HeldCopy) → rank_of n k < rank (slice_index_or copies at d)
    here d =
        omega (arith, apart, ap (λ (c : HeldCopy). rank c) (get_or_default copies at d e inside), from.later at d (omega arith) inside)

    past : (j : ℕ) (d : HeldCopy) → at ≤ j → j < length copies → rank_of n k < rank (slice_index_or copies j d)
    past j d le within = elim (cases_eq at j) [
      | inl same ↦ omega (arith, here d, ap (λ (m : ℕ). rank (slice_index_or copies m d)) same)
      | inr ne ↦ omega (arith, here d, ascending 0 copies up at j d (omega (arith, le, ne)) within)
    ]
