-- How many keys pass a test.
use Rattle.std.proofs.Common.{inl, inr, ◌≡◌, ℕ, suc, ◌+◌, ◌<◌, ◌≤◌, ◌^◌, ◌==◌, ◌&&◌, Bool, true, cond, nat_lt, List, [], ◌∷◌, length, map, filter, refl, sym, ap, arith, ◌++◌}
use Rattle.cgf_journal.proofs.Names.{AreAscending, AreUpTo, cases_Bool, cases_order, cond_both, count_by-le-length, counted_keys, counts, eq-eqb, held_after, held_by, held_in, held_in_order, HeldKey, HistoryAct, KeptKey, key_in_order, key_of, keys_in_order, keys_of, length-filter, ltb-false, ltb-true, ne_eqb, passing, rank, slice_index_or, SortedKeys, stays_held, ⊤}
use Rattle.cgf_journal.specs.Rank.{rank_of}
use Rattle.cgf_journal.proofs.KeysLemmas.{same_node}

pub passing_both : (p q : HeldKey → Bool) (keys : List HeldKey) → passing p (filter q keys) ≡ passing (λ (key : HeldKey). q key && p key) keys
passing_both p q [] = refl
passing_both p q (key ∷ keys) =
    elim (cases_Bool (q key)) [
      | inl is ↦ rw is (ap (λ (n : ℕ). cond (p key) 1 0 + n) (passing_both p q keys))
      | inr isnt ↦ rw isnt (omega (arith, passing_both p q keys))
    ]

pub passing_in_order : (p : HeldKey → Bool) (key : HeldKey) (keys : List HeldKey) → passing p (key_in_order key keys) ≡ passing p keys + cond (p key) 1 0
passing_in_order p key [] = omega arith
passing_in_order p key (first ∷ keys) =
    cond_both (nat_lt (rank_of first.node.0 first.number) (rank_of key.node.0 key.number)) (first ∷ key_in_order key
    keys) (key ∷ first ∷ keys)
    (λ (l : List HeldKey). passing p l ≡ passing p (first ∷ keys) + cond (p key) 1 0) (λ _.
    omega (arith, passing_in_order p key keys)) (λ _. omega arith)

pub passing_all_in_order : (p : HeldKey → Bool) (more keys : List HeldKey) → passing p (keys_in_order more keys) ≡ passing p keys + passing p more
passing_all_in_order p [] keys = omega arith
passing_all_in_order p (key ∷ more) keys =
    omega (arith, passing_in_order p key (keys_in_order more keys), passing_all_in_order p more keys)

pub passing-append : (p : HeldKey → Bool) (keys more : List HeldKey) → passing p (keys ++ more) ≡ passing p keys + passing p more
passing-append p [] more = omega arith
passing-append p (key ∷ keys) more = omega (arith, passing-append p keys more)

pub passing_all : (keys : List HeldKey) → passing (λ (key : HeldKey). true) keys ≡ length keys
passing_all [] = refl
passing_all (key ∷ keys) = omega (arith, passing_all keys)

-- the keys of a list that pass a test
pub passing_of : (p : HeldKey → Bool) (keys : List HeldKey) → length (filter p keys) ≡ passing p keys
passing_of p [] = refl
passing_of p (key ∷ keys) = grind (arith, passing_of p keys)

pub passing_le : (p : HeldKey → Bool) (keys : List HeldKey) → passing p keys ≤ length keys
passing_le p keys = omega (arith, passing_of p keys, length-filter p keys, count_by-le-length p keys)

-- one more entry, of keys in order
pub passing_after : (p : HeldKey → Bool) (act : HistoryAct) (keys : List HeldKey) → passing p (held_after act keys) ≡ passing (λ (key : HeldKey). stays_held act key && p key) keys + passing p (held_by act [])
passing_after p act keys = grind (arith, passing_all_in_order, passing_both)

-- ---- lists of held keys in order: they are the same where as many keys of each pass each test

abbrev place : HeldKey → ℕ
place key = rank_of key.node.0 key.number

-- no key comes before this place
abbrev AreFrom : ℕ → List HeldKey → Type 0
AreFrom q [] = ⊤
AreFrom q (key ∷ keys) = (q ≤ place key) × AreFrom q keys

-- each key comes before none in front of it, and numbers have 64 bits
abbrev pub AreInOrder : List HeldKey → Type 0
AreInOrder [] = ⊤
AreInOrder (key ∷ keys) = (key.number < 2 ^ 64) × (AreFrom (place key) keys × AreInOrder keys)

from_low : (low q : ℕ) (keys : List HeldKey) → low ≤ q → AreFrom q keys → AreFrom low keys
from_low low q [] le from = tt
from_low low q (key ∷ keys) le from = (omega (arith, le, from.0), from_low low q keys le from.1)

-- ---- one more key, and fewer

from_placed : (q : ℕ) (key : HeldKey) (keys : List HeldKey) → q ≤ place key → AreFrom q keys → AreFrom q (key_in_order key keys)
from_placed q key [] here from = (here, tt)
from_placed q key (first ∷ keys) here from =
    cond_both (nat_lt (place first) (place key)) (first ∷ key_in_order key keys) (key ∷ first ∷ keys) (AreFrom q)
    (λ _. (from.0, from_placed q key keys here from.1)) (λ _. (here, from))

placed : (key : HeldKey) (keys : List HeldKey) → key.number < 2 ^ 64 → AreInOrder keys → AreInOrder (key_in_order key keys)
placed key [] small up = (small, (tt, tt))
placed key (first ∷ keys) small up =
    cond_both (nat_lt (place first) (place key)) (first ∷ key_in_order key keys) (key ∷ first ∷ keys) AreInOrder
    (λ is. (
      up.0,
      (
        from_placed (place first) key keys (omega (arith, ltb-true (place first) (place key) is))
            up.1.0,
        placed key keys small up.1.1,
      ),
    ))
    (λ is. let le = ltb-false (place first) (place key) is in
    (small, ((omega (arith, le), from_low (place key) (place first) keys (omega (arith, le)) up.1.0), up)))

pub all_placed : (more keys : List HeldKey) → AreInOrder more → AreInOrder keys → AreInOrder (keys_in_order more keys)
all_placed [] keys first up = up
all_placed (key ∷ more) keys first up = placed key (keys_in_order more keys) first.0 (all_placed more keys first.1.1 up)

from_filter : (q : ℕ) (p : HeldKey → Bool) (keys : List HeldKey) → AreFrom q keys → AreFrom q (filter p keys)
from_filter q p [] from = tt
from_filter q p (key ∷ keys) from =
    let rest = from_filter q p keys from.1 in
    cond_both (p key) (key ∷ filter p keys) (filter p keys) (AreFrom q) (λ _. (from.0, rest)) (λ _. rest)

filtered : (p : HeldKey → Bool) (keys : List HeldKey) → AreInOrder keys → AreInOrder (filter p keys)
filtered p [] up = tt
filtered p (key ∷ keys) up =
    let rest = filtered p keys up.1.1 in
    cond_both (p key) (key ∷ filter p keys) (filter p keys) AreInOrder
    (λ _. (up.0, (from_filter (place key) p keys up.1.0, rest))) (λ _. rest)

-- ---- keys that are kept in order

from_counted : (q : ℕ) (s : Bool) (r : ℕ) (keys : List KeptKey) → ((j : ℕ) (d : KeptKey) → j < length keys → q ≤ rank (slice_index_or keys j d)) → AreFrom q (counted_keys s r keys)
from_counted q s r [] above = tt
from_counted q s r (kept ∷ keys) above =
    let counted : List KeptKey = filter (λ (k : KeptKey). counts s r k) keys in
    let rest = from_counted q s r keys (λ j d lt. above (suc j) d (omega (arith, lt))) in
    cond_both (counts s r kept) (kept ∷ counted) counted
    (λ (l : List KeptKey). AreFrom q (map key_of l)) (λ _. (above 0 kept (omega arith), rest)) (λ _. rest)

counted_up : (s : Bool) (r t : ℕ) (keys : List KeptKey) → AreAscending keys → AreUpTo t keys → AreInOrder (counted_keys s r keys)
counted_up s r t [] up small = tt
counted_up s r t (kept ∷ keys) up small =
    let counted : List KeptKey = filter (λ (k : KeptKey). counts s r k) keys in
    let rest = counted_up s r t keys (λ i j d lt within.
    up (suc i) (suc j) d (omega (arith, lt)) (omega (arith, within))) (λ j d lt.
    small (suc j) d (omega (arith, lt))) in
    cond_both (counts s r kept) (kept ∷ counted) counted (λ (l : List KeptKey). AreInOrder (map key_of l)) (λ _. (
      (small 0 kept (omega arith)).1,
      (
        from_counted (rank kept) s r keys
            (λ j d lt. omega (arith, up 0 (suc j) d (omega arith) (omega (arith, lt)))),
        rest,
      ),
    )) (λ _. rest)

pub sorted_up : (s : Bool) (keys : SortedKeys) → AreInOrder (keys_of s keys)
sorted_up s keys = counted_up s keys.round keys.round keys.keys.items keys.ascending keys.up_to

pub both_up : (s : Bool) (early late : SortedKeys) → AreInOrder (held_in_order s early late)
both_up s early late = all_placed (keys_of s late) (keys_of s early) (sorted_up s late) (sorted_up s early)

pub after_up : (act : HistoryAct) (keys : List HeldKey) → AreInOrder (held_by act []) → AreInOrder keys → AreInOrder (held_after act keys)
after_up act keys held up = all_placed (held_by act []) (filter (λ (key : HeldKey). stays_held act key) keys) held (filtered (λ (key : HeldKey). stays_held act key) keys up)

-- ---- where lists in order are the same

none_there : (q low : ℕ) (keys : List HeldKey) → low < q → AreFrom q keys → passing (λ (key : HeldKey). place key == low) keys ≡ 0
none_there q low [] lt from = refl
none_there q low (key ∷ keys) lt from = rw (ne_eqb (place key) low (λ e. omega (arith, e, lt, from.0))) (omega (arith, none_there q low keys lt from.1))

-- a list that begins in front of another has a key that the other lacks
begins_before : (a b : HeldKey) (keys others : List HeldKey) → place a < place b → AreInOrder (b ∷ others) → passing (λ (key : HeldKey). place key == place a) (a ∷ keys) ≡ passing (λ (key : HeldKey). place key == place a) (b ∷ others) → ⊥
begins_before a b keys others lt up alike =
    let here : passing (λ (key : HeldKey). place key == place a) (a ∷ keys) ≡ 1 + passing (λ (key : HeldKey). place key == place a) keys = rw (eq-eqb (place a) (place a) refl) refl in
    omega (arith, here, alike, none_there (place b) (place a) (b ∷ others) lt (omega arith, up.1.0))

weight : (HeldKey → Bool) → HeldKey → ℕ
weight p key = cond (p key) 1 0

passing_first : (p : HeldKey → Bool) (key : HeldKey) (keys : List HeldKey) → passing p (key ∷ keys) ≡ weight p key + passing p keys
unfolding weight
passing_first p key keys = refl

pub same_list : (keys others : List HeldKey) → AreInOrder keys → AreInOrder others → ((p : HeldKey → Bool) → passing p keys ≡ passing p others) → keys ≡ others
same_list [] [] up down alike = refl
same_list [] (b ∷ others) up down alike = absurd (omega (arith, alike (λ (key : HeldKey). true)))
same_list (a ∷ keys) [] up down alike = absurd (omega (arith, alike (λ (key : HeldKey). true)))
same_list (a ∷ keys) (b ∷ others) up down alike = elim (cases_order (place a) (place b)) [
  | inl e ↦
      let is = same_node a.node.0 b.node.0 a.number b.number up.0 down.0 e in
      let same : a ≡ b = λ i. record { node = record { 0 = is.0 i }; number = is.1 i } in
      let rest = same_list keys others up.1.1 down.1.1 (λ p. omega (arith, alike p, passing_first p a keys, passing_first p b others, ap {B = ℕ} (λ (key : HeldKey). weight p key) same)) in
      λ i. same i ∷ rest i
  | inr (inl lt) ↦ absurd (begins_before a b keys others lt down (alike (λ (key : HeldKey). place key == place a)))
  | inr (inr gt) ↦ absurd (begins_before b a others keys gt up (sym (alike (λ (key : HeldKey). place key == place b))))
]

-- ---- two lists

pub held_as : (s : Bool) (early late : SortedKeys) (p : HeldKey → Bool) → passing p (held_in_order s early late) ≡ held_in s early late p
held_as s early late p = passing_all_in_order p (keys_of s late) (keys_of s early)

pub same_held : (s : Bool) (early late early_new late_new : SortedKeys) → ((p : HeldKey → Bool) → held_in s early_new late_new p ≡ held_in s early late p) → held_in_order s early_new late_new ≡ held_in_order s early late
same_held s early late early_new late_new alike = grind (arith, same_list, both_up, held_as)

pub held_then : (act : HistoryAct) (s : Bool) (early late early_new late_new : SortedKeys) → AreInOrder (held_by act [])
    → ((p : HeldKey → Bool) → held_in s early_new late_new p ≡ held_in s early late (λ (key : HeldKey). stays_held act key && p key) + passing p (held_by act []))
    → held_in_order s early_new late_new ≡ held_after act (held_in_order s early late)
held_then act s early late early_new late_new fits alike =
    grind (arith, same_list, both_up, after_up, held_as, passing_after)

pub none_up : (keys : List HeldKey) → length keys ≡ 0 → AreInOrder keys
none_up [] none = tt
none_up (key ∷ keys) none = absurd (omega (arith, none))
