-- Keys stay in order, each once.
use Rattle.std.proofs.Common.{inl, inr, ◌≡◌, ℕ, zero, suc, ◌<◌, ◌≤◌, ◌^◌, List, [], ◌∷◌, ◌++◌, length, take, drop, map, nat_lt, true, false, ap, ◌∙◌, arith, rules}
use Rattle.cgf_journal.proofs.Names.{All, All-append, All-cons, All-drop, All-nil, All-take, AllPairs-cons, AreAscending, cases_eq, get_or-map, get_or-set_other, get_or-set_same, get_or_default, is_named, IsAbsent, IsFound, KeptKey, key_of, length-map, length-set, ltb-false, ltb-true, rank, rank_of, slice_index_or, slice_set, take_at}
use Rattle.std.specs.List.Sorted.{IsNonDecreasingBy, IsPartitionPoint}
use Rattle.cgf_journal.proofs.KeysLemmas.{Before, Later, named_rank}

-- one key comes before another; and what each key has by the round
abbrev pub Precedes : KeptKey → KeptKey → Type 0
Precedes a b = rank a < rank b

abbrev pub UpTo : ℕ → KeptKey → Type 0
UpTo round kept = (kept.round ≤ round) × (kept.number < 2 ^ 64)

-- ---- one key changed

pub field-set : {A : Type 0} (f : KeptKey → A) (keys : List KeptKey) (at : ℕ) (now : KeptKey) → at < length keys
    → ((d : KeptKey) → f now ≡ f (slice_index_or keys at d))
    → (j : ℕ) (d : KeptKey) → f (slice_index_or (slice_set keys at now) j d) ≡ f (slice_index_or keys j d)
field-set f keys at now inside same j d = grind (arith, get_or-set_same, get_or-set_other)

pub ascending-set : (keys : List KeptKey) (at : ℕ) (now : KeptKey) → at < length keys → ((d : KeptKey) → rank now ≡ rank (slice_index_or keys at d)) → AreAscending keys → AreAscending (slice_set keys at now)
ascending-set keys at now inside same up i j d lt within =
    omega (arith, field-set (λ (k : KeptKey). rank k) keys at now inside same i d, field-set (λ (k : KeptKey). rank k) keys at now inside same j d, up i j d lt (omega (arith, within, length-set keys at now)))

-- ---- one key more

-- where it belongs
pub ascending-insert : (keys : List KeptKey) (at : ℕ) (now : KeptKey) → Before keys at (rank now) → Later keys at (rank now)
    → AreAscending keys → AreAscending (take at keys ++ now ∷ drop at keys)
ascending-insert keys zero now before later up =
    AllPairs-cons Precedes now keys (λ j d lt. later j d (omega arith) lt) up
ascending-insert [] (suc at) now before later up = AllPairs-cons Precedes now [] (All-nil (Precedes now)) up
ascending-insert (kept ∷ keys) (suc at) now before later up =
    let behind : All (Precedes kept) keys = λ j d lt. up 0 (suc j) d (omega arith) (omega (arith, lt)) in
    AllPairs-cons Precedes kept (take at keys ++ now ∷ drop at keys)
    (All-append (Precedes kept) (take at keys) (now ∷ drop at keys) (All-take (Precedes kept) at keys behind)
    (All-cons (Precedes kept) now (drop at keys) (before 0 kept (omega arith)) (All-drop (Precedes kept) at keys behind)))
    (ascending-insert keys at now (λ j d lt. before (suc j) d (omega (arith, lt)))
    (λ j d le lt. later (suc j) d (omega (arith, le)) (omega (arith, lt)))
    (λ i j d lt within. up (suc i) (suc j) d (omega (arith, lt)) (omega (arith, within))))

-- ---- each changed in place

pub ascending-map : (f : KeptKey → KeptKey) → ((kept : KeptKey) → rank (f kept) ≡ rank kept) → (keys : List KeptKey)
    → AreAscending keys → AreAscending (map f keys)
ascending-map f same keys up i j d lt within =
    let inside : j < length keys = omega (arith, within, length-map keys f) in
    omega (
      arith,
      up i j d lt inside,
      ap (λ (k : KeptKey). rank k) (get_or-map f keys i d d (omega (arith, lt, inside))),
      ap (λ (k : KeptKey). rank k) (get_or-map f keys j d d inside),
      same (slice_index_or keys i d),
      same (slice_index_or keys j d),
    )

-- ---- where a number belongs

pub ordered : (keys : List KeptKey) → AreAscending keys → IsNonDecreasingBy (λ (kept : KeptKey). rank kept) keys
ordered keys is = search rules

-- what a search by rank tells of the keys from a place on
abbrev pub NotBefore : List KeptKey → ℕ → ℕ → Type 0
NotBefore keys at q = (j : ℕ) (d : KeptKey) → at ≤ j → j < length keys → q ≤ rank (slice_index_or keys j d)

pub before_by : (keys : List KeptKey) (at q : ℕ) → IsPartitionPoint (λ (k : KeptKey). nat_lt (rank k) q ≡ true) (λ (k : KeptKey). nat_lt (rank k) q ≡ false) keys at → Before keys at q
before_by keys at q point j d lt = ltb-true (rank (slice_index_or keys j d)) q (point.0 j d (omega arith) lt)

pub not_before_by : (keys : List KeptKey) (at q : ℕ) → IsPartitionPoint (λ (k : KeptKey). nat_lt (rank k) q ≡ true) (λ (k : KeptKey). nat_lt (rank k) q ≡ false) keys at → NotBefore keys at q
not_before_by keys at q point j d le within = ltb-false (rank (slice_index_or keys j d)) q (point.1 j d le within)

pub found_at : (keys : List KeptKey) (at n x : ℕ) (e : KeptKey) → AreAscending keys → at < length keys → Before keys at (rank_of n x) → is_named n x (key_of (slice_index_or keys at e)) ≡ true → IsFound keys at n x
found_at keys at n x e up inside before named =
    let here = named_rank (slice_index_or keys at e) n x named in
    record {
      inside = inside;
      named = λ d. ap (λ (k : KeptKey). is_named n x (key_of k)) (get_or_default keys at d e inside) ∙ named;
      before = before;
      later = λ j d lt within. omega (arith, here, up at j d lt within, ap (λ (k : KeptKey). rank k) (get_or_default keys at d e inside));
    }

pub absent_end : (keys : List KeptKey) (at n x : ℕ) → at ≡ length keys → Before keys at (rank_of n x) → IsAbsent keys at n x
absent_end keys at n x end before = record { inside = omega (arith, end); before = before; later = λ j d le within. absurd (omega (arith, le, within, end)) }

pub absent_at : (keys : List KeptKey) (at n x : ℕ) (e : KeptKey) → AreAscending keys → at < length keys → Before keys at (rank_of n x) → NotBefore keys at (rank_of n x)
    → (rank (slice_index_or keys at e) ≡ rank_of n x → ⊥) → IsAbsent keys at n x
absent_at keys at n x e up inside before from apart =
    let here : rank_of n x < rank (slice_index_or keys at e) = omega (arith, from at e (omega arith) inside, apart) in
    record {
      inside = omega (arith, inside);
      before = before;
      later = λ j d le within. elim (cases_eq at j) [
        | inl same ↦ omega (arith, here, ap (λ (k : ℕ). rank (slice_index_or keys k d)) same, ap (λ (k : KeptKey). rank k) (get_or_default keys at d e inside))
        | inr other ↦ omega (
          arith,
          here,
          ap (λ (k : KeptKey). rank k) (get_or_default keys at d e inside),
          up at j d (omega (arith, le, other)) within,
        )
      ];
    }

-- a change of each in place
pub written : (f : KeptKey → KeptKey) (n : ℕ) (was keys ys zs : List KeptKey) → ys ≡ map f was → length was ≡ n → was ≡ keys → take n (ys ++ zs) ≡ map f keys
written f n was keys ys zs is at same =
    take_at ys zs n (ap (λ (l : List KeptKey). length l) is ∙ length-map was f ∙ at) ∙ is ∙ ap (λ (l : List KeptKey). map f l) same
