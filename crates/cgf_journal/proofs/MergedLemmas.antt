-- Two lists of kept keys as one.
use Rattle.std.proofs.Common.{◌≡◌, ℕ, zero, suc, ◌+◌, ◌<◌, ◌≤◌, ◌^◌, ◌==◌, ◌||◌, Bool, true, false, if◌then◌else◌, List, [], ◌∷◌, ◌++◌, length, drop, take, refl, sym, ap, ◌∙◌, arith, inl, inr}
use Rattle.cgf_journal.proofs.Names.{All, All-cons, All-map, All-tail, AllPairs-cons, AreAscending, AreUpTo, cases_order, counted_keys, counts, drop_all, eq-eqb, false_from_ne_true, HeldKey, is_named, IsOnceEach, joined_key, KeptKey, key_of, keys_of, le-ltb, length-map, lt-ltb, merged, moved_key, moved_keys, passing, rank, slice_index_or, SortedKeys, true≢false}
use Rattle.cgf_journal.proofs.InOrder.{passing_all}
use Rattle.cgf_journal.proofs.KeysLemmas.{counted-cons, same_node, one}
use Rattle.cgf_journal.proofs.Orders.{Precedes, UpTo, ascending-map}

-- ---- which key comes next

merged-none : (r : ℕ) (keys : List KeptKey) → merged r keys [] ≡ keys
merged-none r [] = refl
merged-none r (kept ∷ keys) = refl

-- behind the last of the others the rest of the keys stand as they are
pub left_over : (from r i j : ℕ) (keys others : List KeptKey) → length others ≤ j → merged r (drop i keys) (moved_keys from r (drop j others)) ≡ drop i keys
left_over from r i j keys others end = grind (arith, drop_all, merged-none)

-- keys before the first of the others stay where they are
stays_before : (r at : ℕ) (keys : List KeptKey) (b : KeptKey) (ls : List KeptKey) → at ≤ length keys → ((j : ℕ) (d : KeptKey) → j < at → rank (slice_index_or keys j d) < rank b)
    → take at keys ++ merged r (drop at keys) (b ∷ ls) ≡ merged r keys (b ∷ ls)
stays_before r zero keys b ls inside before = refl
stays_before r (suc at) [] b ls inside before = absurd (omega (arith, inside))
stays_before r (suc at) (a ∷ keys) b ls inside before =
    rw (lt-ltb (rank a) (rank b) (before 0 a (omega arith)))
    (ap (λ (l : List KeptKey). a ∷ l) (stays_before r at keys b ls (omega (arith, inside)) (λ j d lt. before (suc j) d (omega (arith, lt)))))

pub stays_in_place : (from r at : ℕ) (keys others : List KeptKey) (first : KeptKey) → (length others == 0) ≡ false → ((d : KeptKey) → first ≡ slice_index_or others 0 d) → at ≤ length keys
    → ((j : ℕ) (d : KeptKey) → j < at → rank (slice_index_or keys j d) < rank first)
    → take at keys ++ merged r (drop at keys) (moved_keys from r others) ≡ merged r keys (moved_keys from r others)
stays_in_place from r at keys [] first some is inside before = absurd (true≢false some)
stays_in_place from r at keys (other ∷ others) first some is inside before =
    stays_before r at keys (moved_key from r other) (moved_keys from r others) inside (λ j d lt. omega (arith, before j d lt, ap (λ (k : KeptKey). rank k) (is first)))

-- ---- what is true of each key

-- what holds where one list is over, and goes on as the next key comes from one, the other or both, holds of all
merge_all : (r : ℕ) (P : List KeptKey → List KeptKey → List KeptKey → Type 0) → ((ls : List KeptKey) → P [] ls ls)
    → ((a : KeptKey) (ks : List KeptKey) → P (a ∷ ks) [] (a ∷ ks))
    → ((a b : KeptKey) (ks ls : List KeptKey) → rank a < rank b → P ks (b ∷ ls) (merged r ks (b ∷ ls))
    → P (a ∷ ks) (b ∷ ls) (a ∷ merged r ks (b ∷ ls)))
    → ((a b : KeptKey) (ks ls : List KeptKey) → rank b < rank a → P (a ∷ ks) ls (merged r (a ∷ ks) ls)
    → P (a ∷ ks) (b ∷ ls) (b ∷ merged r (a ∷ ks) ls))
    → ((a b : KeptKey) (ks ls : List KeptKey) → rank a ≡ rank b → P ks ls (merged r ks ls)
    → P (a ∷ ks) (b ∷ ls) (joined_key r a b ∷ merged r ks ls))
    → (ks ls : List KeptKey) → P ks ls (merged r ks ls)
merge_all r P none alone one other both [] ls = none ls
merge_all r P none alone one other both (a ∷ ks) ls = from (merge_all r P none alone one other both ks) ls
  where
    from : ((l : List KeptKey) → P ks l (merged r ks l)) → (ls : List KeptKey) → P (a ∷ ks) ls (merged r (a ∷ ks) ls)
    from rest [] = alone a ks
    from rest (b ∷ ls) =
        let later = from rest ls in
        elim (cases_order (rank a) (rank b)) [
          | inl e ↦ rw (le-ltb (rank a) (rank b) (omega (arith, e)), le-ltb (rank b) (rank a) (omega (arith, e)))
              (both a b ks ls e (rest ls))
          | inr (inl lt) ↦ rw (lt-ltb (rank a) (rank b) lt) (one a b ks ls lt (rest (b ∷ ls)))
          | inr (inr gt) ↦ rw (le-ltb (rank a) (rank b) (omega (arith, gt)), lt-ltb (rank b) (rank a) gt)
              (other a b ks ls gt later)
        ]

each-merged : (P : KeptKey → Type 0) (r : ℕ) → ((a b : KeptKey) → P a → P b → P (joined_key r a b))
    → (ks ls : List KeptKey) → All P ks → All P ls → All P (merged r ks ls)
each-merged P r joined =
    merge_all r (λ ks ls m. All P ks → All P ls → All P m) (λ ls first second. second) (λ a ks first second. first)
    (λ a b ks ls lt rest first second.
    All-cons P a (merged r ks (b ∷ ls)) (first 0 a (omega arith)) (rest (All-tail P a ks first) second))
    (λ a b ks ls lt rest first second.
    All-cons P b (merged r (a ∷ ks) ls) (second 0 b (omega arith)) (rest first (All-tail P b ls second)))
    (λ a b ks ls same rest first second.
    All-cons P (joined_key r a b) (merged r ks ls) (joined a b (first 0 a (omega arith)) (second 0 b (omega arith)))
    (rest (All-tail P a ks first) (All-tail P b ls second)))

-- ---- the order

abbrev Above : ℕ → List KeptKey → Type 0
Above q keys = All (λ (kept : KeptKey). q < rank kept) keys

above_head : (kept : KeptKey) (keys : List KeptKey) → AreAscending (kept ∷ keys) → Above (rank kept) keys
above_head kept keys up j d lt = up 0 (suc j) d (omega arith) (omega (arith, lt))

ascending-tail : (kept : KeptKey) (keys : List KeptKey) → AreAscending (kept ∷ keys) → AreAscending keys
ascending-tail kept keys up i j d lt within = up (suc i) (suc j) d (omega (arith, lt)) (omega (arith, within))

above-below : (q low : ℕ) (keys : List KeptKey) → low ≤ q → Above q keys → Above low keys
above-below q low keys le above j d lt = omega (arith, le, above j d lt)

above-merged : (q r : ℕ) (ks ls : List KeptKey) → Above q ks → Above q ls → Above q (merged r ks ls)
above-merged q r ks ls first second = each-merged (λ (kept : KeptKey). q < rank kept) r (λ a b one two. one) ks ls first second

pub ascending-merged : (r : ℕ) (ks ls : List KeptKey) → AreAscending ks → AreAscending ls → AreAscending (merged r ks ls)
ascending-merged r =
    merge_all r (λ ks ls m. AreAscending ks → AreAscending ls → AreAscending m)
    (λ ls first second. second) (λ a ks first second. first)
    (λ a b ks ls lt rest first second.
    AllPairs-cons Precedes a (merged r ks (b ∷ ls))
    (above-merged (rank a) r ks (b ∷ ls) (above_head a ks first) (from a b ls lt second))
    (rest (ascending-tail a ks first) second))
    (λ a b ks ls lt rest first second.
    AllPairs-cons Precedes b (merged r (a ∷ ks) ls)
    (above-merged (rank b) r (a ∷ ks) ls (from b a ks lt first) (above_head b ls second))
    (rest first (ascending-tail b ls second)))
    (λ a b ks ls same rest first second.
    AllPairs-cons Precedes (joined_key r a b) (merged r ks ls)
    (above-merged (rank a) r ks ls (above_head a ks first)
    (above-below (rank b) (rank a) ls (omega (arith, same)) (above_head b ls second)))
    (rest (ascending-tail a ks first) (ascending-tail b ls second)))
  where
    from : (a b : KeptKey) (ls : List KeptKey) → rank a < rank b → AreAscending (b ∷ ls) → Above (rank a) (b ∷ ls)
    from a b ls lt up =
        All-cons (λ (kept : KeptKey). rank a < rank kept) b ls lt
        (above-below (rank b) (rank a) ls (omega (arith, lt)) (above_head b ls up))

pub up_to-merged : (r : ℕ) (ks ls : List KeptKey) → AreUpTo r ks → AreUpTo r ls → AreUpTo r (merged r ks ls)
up_to-merged r ks ls first second = each-merged (λ (kept : KeptKey). (kept.round ≤ r) × (kept.number < 2 ^ 64)) r (λ a b one two. (omega arith, one.1)) ks ls first second

pub length-merged : (r : ℕ) (ks ls : List KeptKey) → length (merged r ks ls) ≤ length ks + length ls
length-merged r =
    merge_all r (λ ks ls m. length m ≤ length ks + length ls) (λ ls. omega arith) (λ a ks. omega arith)
    (λ a b ks ls lt rest. omega (arith, rest)) (λ a b ks ls lt rest. omega (arith, rest))
    (λ a b ks ls same rest. omega (arith, rest))

-- ---- which of them count

abbrev weight : (HeldKey → Bool) → Bool → ℕ → KeptKey → ℕ
weight p s r kept = if counts s r kept then one (p (key_of kept)) else 0

pub amount-cons : (p : HeldKey → Bool) (s : Bool) (r : ℕ) (kept : KeptKey) (keys : List KeptKey) → passing p (counted_keys s r (kept ∷ keys)) ≡ weight p s r kept + passing p (counted_keys s r keys)
amount-cons p s r kept keys = grind arith

-- no key counts in both lists
abbrev pub AreApart : Bool → ℕ → List KeptKey → List KeptKey → Type 0
AreApart s r ks ls = (i j : ℕ) (d : KeptKey) → i < length ks → j < length ls → rank (slice_index_or ks i d) ≡ rank (slice_index_or ls j d)
    → counts s r (slice_index_or ks i d) ≡ true → counts s r (slice_index_or ls j d) ≡ true → ⊥

abbrev pub AreSmall : List KeptKey → Type 0
AreSmall keys = All (λ (kept : KeptKey). kept.number < 2 ^ 64) keys

same_key : (a b : KeptKey) → a.number < 2 ^ 64 → b.number < 2 ^ 64 → rank a ≡ rank b → key_of a ≡ key_of b
same_key a b p q e = grind (arith, same_node)

count-joined : (s : Bool) (r : ℕ) (a b : KeptKey) → counts s r (joined_key r a b) ≡ (counts s r a || counts s r b)
count-joined s r a b = grind (arith, eq-eqb)

weight-joined : (p : HeldKey → Bool) (s : Bool) (r : ℕ) (a b : KeptKey) → key_of a ≡ key_of b → (counts s r a ≡ true → counts s r b ≡ true → ⊥) → weight p s r (joined_key r a b) ≡ weight p s r a + weight p s r b
weight-joined p s r a b same apart = grind (arith, count-joined, false_from_ne_true)

pub passing-merged : (p : HeldKey → Bool) (s : Bool) (r : ℕ) (ks ls : List KeptKey) → AreSmall ks → AreSmall ls → AreApart s r ks ls
    → passing p (counted_keys s r (merged r ks ls)) ≡ passing p (counted_keys s r ks) + passing p (counted_keys s r ls)
passing-merged p s r =
    let P : KeptKey → Type 0 = λ kept. kept.number < 2 ^ 64 in
    merge_all r (λ ks ls m. AreSmall ks → AreSmall ls → AreApart s r ks ls
    → passing p (counted_keys s r m) ≡ passing p (counted_keys s r ks) + passing p (counted_keys s r ls))
    (λ ls first second apart. omega arith)
    (λ a ks first second apart. omega arith)
    (λ a b ks ls lt rest first second apart.
    let before = rest (All-tail P a ks first) second
    (λ i j d low within. apart (suc i) j d (omega (arith, low)) within) in
    omega (arith, before, amount-cons p s r a (merged r ks (b ∷ ls)), amount-cons p s r a ks))
    (λ a b ks ls lt rest first second apart.
    let before = rest first (All-tail P b ls second)
    (λ i j d low within. apart i (suc j) d low (omega (arith, within))) in
    omega (arith, before, amount-cons p s r b (merged r (a ∷ ks) ls), amount-cons p s r b ls))
    (λ a b ks ls same rest first second apart.
    let before = rest (All-tail P a ks first) (All-tail P b ls second)
    (λ i j d low within. apart (suc i) (suc j) d (omega (arith, low)) (omega (arith, within))) in
    let key = same_key a b (first 0 a (omega arith)) (second 0 b (omega arith)) same in
    let both = weight-joined p s r a b key (apart 0 0 a (omega arith) (omega arith) same) in
    omega (
      arith,
      before,
      both,
      amount-cons p s r (joined_key r a b) (merged r ks ls),
      amount-cons p s r a ks,
      amount-cons p s r b ls,
    ))

-- ---- keys of another round

counted-moved : (s : Bool) (from to : ℕ) (keys : List KeptKey) → counted_keys s to (moved_keys from to keys) ≡ counted_keys s from keys
counted-moved s from to [] = refl
counted-moved s from to (kept ∷ keys) =
    counted-cons s s to from (moved_key from to kept) kept (moved_keys from to keys) keys
    (same s) refl (counted-moved s from to keys)
  where
    same : (s : Bool) → counts s to (moved_key from to kept) ≡ counts s from kept
    same true = rw (eq-eqb to to refl) refl
    same false = refl

-- ---- no key is held twice

counted_one : (p : HeldKey → Bool) (s : Bool) (r : ℕ) (keys : List KeptKey) (i : ℕ) (d : KeptKey) → i < length keys → counts s r (slice_index_or keys i d) ≡ true
    → p (key_of (slice_index_or keys i d)) ≡ true → 1 ≤ passing p (counted_keys s r keys)
counted_one p s r [] i d lt counted passes = absurd (omega (arith, lt))
counted_one p s r (kept ∷ keys) zero d lt counted passes =
    let here : weight p s r kept ≡ 1 = rw counted (rw passes refl) in
    omega (arith, amount-cons p s r kept keys, here)
counted_one p s r (kept ∷ keys) (suc i) d lt counted passes = omega (arith, amount-cons p s r kept keys, counted_one p s r keys i d (omega (arith, lt)) counted passes)

named_so : (key : HeldKey) → is_named key.node.0 key.number key ≡ true
named_so key = rw (eq-eqb key.node.0 key.node.0 refl) (eq-eqb key.number key.number refl)

pub apart_if : (s : Bool) (r : ℕ) (ks ls : List KeptKey) → AreSmall ks → AreSmall ls
    → IsOnceEach (λ (p : HeldKey → Bool). passing p (counted_keys s r ks) + passing p (counted_keys s r ls)) → AreApart s r ks ls
apart_if s r ks ls first second once i j d lt within same one two =
    let a = slice_index_or ks i d in
    let b = slice_index_or ls j d in
    let p : HeldKey → Bool = λ key. is_named a.node.0 a.number key in
    let is : key_of a ≡ key_of b = same_key a b (first i d lt) (second j d within) same in
    omega (
      arith,
      once a.node.0 a.number,
      counted_one p s r ks i d lt one (named_so (key_of a)),
      counted_one p s r ls j d within two (ap p (sym is) ∙ named_so (key_of a)),
    )

-- ---- a list with the keys of another

module _ (early late : SortedKeys) where
  -- those of the other, as they are kept in this one's round
  abbrev moved : List KeptKey
  moved = moved_keys late.round early.round late.keys.items

  moved_up_to : AreUpTo early.round moved
  moved_up_to =
      All-map (UpTo early.round) (λ kept. moved_key late.round early.round kept) late.keys.items
      (λ j d lt. (omega arith, (late.up_to j d lt).1))

  module _ (items : List KeptKey) (is : items ≡ merged early.round early.keys.items moved) where
    pub absorbed_up : AreAscending items
    absorbed_up =
        rw is (ascending-merged early.round early.keys.items moved early.ascending
        (ascending-map (λ kept. moved_key late.round early.round kept) (λ kept. refl) late.keys.items late.ascending))

    pub absorbed_up_to : AreUpTo early.round items
    absorbed_up_to = rw is (up_to-merged early.round early.keys.items moved early.up_to moved_up_to)

    pub absorbed_length : length items ≤ length early.keys.items + length late.keys.items
    absorbed_length =
        omega (
          arith,
          ap (λ (l : List KeptKey). length l) is,
          length-merged early.round early.keys.items moved,
          length-map late.keys.items (λ (kept : KeptKey). moved_key late.round early.round kept),
        )

    absorbed_held : (s : Bool) → IsOnceEach (λ (p : HeldKey → Bool). passing p (keys_of s early) + passing p (keys_of s late)) → (p : HeldKey → Bool)
        → passing p (counted_keys s early.round items) ≡ passing p (keys_of s early) + passing p (keys_of s late)
    absorbed_held s once p = grind (arith, counted-moved, moved_up_to, passing-merged, apart_if)

    pub absorbed_all : IsOnceEach (λ (p : HeldKey → Bool). passing p (keys_of true early) + passing p (keys_of true late)) → IsOnceEach (λ (p : HeldKey → Bool). passing p (keys_of false early) + passing p (keys_of false late))
        → (s : Bool) (p : HeldKey → Bool) → passing p (counted_keys s early.round items) ≡ passing p (keys_of s early) + passing p (keys_of s late)
    absorbed_all firm live s p = grind (arith, absorbed_held)

    pub absorbed_counted : (s : Bool) → IsOnceEach (λ (p : HeldKey → Bool). passing p (keys_of s early) + passing p (keys_of s late)) → (n m : ℕ) → n ≡ length (keys_of s early) → m ≡ length (keys_of s late)
        → n + m ≡ length (counted_keys s early.round items)
    absorbed_counted s once n m one two =
        omega (arith, one, two, absorbed_held s once (λ key. true), passing_all (counted_keys s early.round items), passing_all (keys_of s early), passing_all (keys_of s late))
