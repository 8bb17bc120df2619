-- What the stored copies say of those that are held, and how many of them pass a test.
use Rattle.std.proofs.Common.{◌≡◌, ℕ, zero, suc, ◌+◌, ◌-◌, ◌<◌, ◌≤◌, ◌==◌, ◌&&◌, not, Bool, true, false, cond, if◌then◌else◌, List, [], ◌∷◌, ◌++◌, Option, None, Some, is_some, length, filter, refl, sym, ap, ◌∙◌, ◌⊎◌, inl, inr, arith}
use Rattle.std.specs.List.{count_by, find}
use Rattle.std.specs.Option.{option_map}
use Rattle.std.specs.Prelude.{slice_index_or}
use Rattle.std.proofs.lemmas.Bool.{and_parts, cases_Bool, cond_both, eq-eqb, eqb-true}
use Rattle.std.proofs.lemmas.List.Filters.{length-filter_both, sum_by-filter_both}
use Rattle.std.proofs.lemmas.List.Sums.{length-filter, sum_by-append, sum_by-cons}
use Rattle.gw_base.specs.declared.place.Place.{Place}
use Rattle.dup_buffer.specs.Copies.{Copies, with_copy, without_copy, without_node}
use Rattle.dup_buffer.specs.Stored.{AreHeld, HaveSame, IsFound, IsOnce, Stored, copies_of, held_in, is_copy_of, is_of, place_of}
use Rattle.dup_buffer.specs.declared.copy.HeldCopy.{HeldCopy}
use Rattle.dup_buffer.proofs.OrderLemmas.{key_of, none_found}

same_copies : (one other : Copies) → one.place_of ≡ other.place_of → one.count ≡ other.count → one.count_of
    ≡ other.count_of → one ≡ other
same_copies one other p c n = λ i. record { place_of = p i; count = c i; count_of = n i }

-- these copies, whatever spare room there is
abbrev pub stored : List HeldCopy → Stored
stored copies = record { entries = copies; spare = 0 }

-- ---- counts

pub count_by-pass : (f : HeldCopy → Bool) (e : HeldCopy) (es : List HeldCopy) (r : Bool) → f e ≡ r →
    count_by f (e ∷ es) ≡ (if r then 1 else 0) + count_by f es
count_by-pass f e es r p = sum_by-cons (λ x. if f x then 1 else 0) e es ∙
    ap (λ (t : Bool). (if t then 1 else 0) + count_by f es) p

pub count-append : (p : HeldCopy → Bool) (xs ys : List HeldCopy) → count_by p (xs ++ ys) ≡ count_by p xs + count_by p ys
count-append p xs ys = sum_by-append (λ c. if p c then 1 else 0) xs ys

pub count_all : (xs : List HeldCopy) → count_by (λ x. true) xs ≡ length xs
count_all [] = refl
count_all (x ∷ xs) = omega (arith, count_by-pass (λ y. true) x xs true refl, count_all xs)

-- ---- of a filter

pub filter-filter : (p q : HeldCopy → Bool) (xs : List HeldCopy) → filter p (filter q xs) ≡ filter (λ x. q x && p x) xs
filter-filter p q [] = refl
filter-filter p q (x ∷ xs) = elim (cases_Bool (q x)) [
  | inl is ↦ rw is (ap (λ (l : List HeldCopy). cond (p x) (x ∷ l) l) (filter-filter p q xs))
  | inr other ↦ rw other (filter-filter p q xs)
]

pub find-filter : (p q : HeldCopy → Bool) (xs : List HeldCopy) → find p (filter q xs) ≡ find (λ x. q x && p x) xs
find-filter p q [] = refl
find-filter p q (x ∷ xs) = elim (cases_Bool (q x)) [
  | inl is ↦ rw is (ap (λ (o : Option HeldCopy). cond (p x) (Some x) o) (find-filter p q xs))
  | inr other ↦ rw other (find-filter p q xs)
]

pub count-filter : (p q : HeldCopy → Bool) (xs : List HeldCopy) → count_by p (filter q xs)
    ≡ count_by (λ x. q x && p x) xs
count-filter p q xs =
    sym (length-filter p (filter q xs)) ∙ ap (λ (l : List HeldCopy). length l) (filter-filter p q xs)
    ∙ length-filter (λ x. q x && p x) xs

pub count_parts : (p q : HeldCopy → Bool) (xs : List HeldCopy) →
    count_by p (filter q xs) + count_by p (filter (λ x. not (q x)) xs) ≡ count_by p xs
count_parts p q xs = sum_by-filter_both q (λ x. not (q x)) (λ _. refl) (λ x. if p x then 1 else 0) xs

-- ---- the first that passes

-- the first that passes, if there is one, and how many pass
finds : (p : HeldCopy → Bool) (xs : List HeldCopy) → ((find p xs ≡ None) × (count_by p xs ≡ 0))
    ⊎ ((c : HeldCopy) × (find p xs ≡ Some c) × (p c ≡ true) × ((q : HeldCopy → Bool) → q c ≡ true → 1 ≤ count_by q xs))
finds p [] = inl (refl, refl)
finds p (x ∷ xs) = elim (cases_Bool (p x)) [
  | inl is ↦ inr (x, rw is refl, is, λ q e. omega (arith, count_by-pass q x xs true e))
  | inr other ↦ elim (finds p xs) [
    | inl none ↦ inl (rw other none.0, omega (arith, count_by-pass p x xs false other, none.1))
    | inr c ↦ inr (c.0, rw other c.1, c.2, λ q e. omega (arith, sum_by-cons (λ d. if q d then 1 else 0) x xs, c.3 q e))
  ]
]

pub none_of_none : (p : HeldCopy → Bool) (xs : List HeldCopy) → count_by p xs ≡ 0 → find p xs ≡ None
none_of_none p xs e = elim (finds p xs) [ inl none ↦ none.0 | inr c ↦ absurd (omega (arith, e, c.3 p c.2)) ]

pub none_if_none : (p : HeldCopy → Bool) (xs : List HeldCopy) → find p xs ≡ None → count_by p xs ≡ 0
none_if_none p xs e = elim (finds p xs) [ inl none ↦ none.1 | inr c ↦ absurd (let found = c.1 in cc) ]

pub found_counts : (p : HeldCopy → Bool) (xs : List HeldCopy) (c : HeldCopy) → find p xs ≡ Some c → 1 ≤ count_by p xs
found_counts p xs c e = elim (finds p xs) [ inl none ↦ absurd (let found = none.0 in cc) | inr d ↦ d.3 p d.2 ]

pub first_here : (p : HeldCopy → Bool) (copies : List HeldCopy) (at : ℕ) (d : HeldCopy) → at < length copies
    → p (slice_index_or copies at d) ≡ true → ((j : ℕ) (d : HeldCopy) → j < at → p (slice_index_or copies j d) ≡ false)
    → find p copies ≡ Some (slice_index_or copies at d)
first_here p [] at d lt named others = absurd (omega (arith, lt))
first_here p (copy ∷ copies) zero d lt named others = rw named refl
first_here p (copy ∷ copies) (suc at) d lt named others =
    rw (others 0 d (omega arith))
    (first_here p copies at d (omega (arith, lt)) named (λ j d less. others (suc j) d (omega (arith, less))))

pub found_is : (node number : ℕ) (copies : List HeldCopy) (at : ℕ) (d : HeldCopy) → IsFound copies at node number →
    find (is_copy_of node number) copies ≡ Some (slice_index_or copies at d)
found_is node number copies at d is =
    first_here (is_copy_of node number) copies at d is.inside (is.named d)
    (λ j e lt. is.others j e (omega (arith, lt, is.inside)) (λ same. omega (arith, same, lt)))

-- ---- the same copies in another order

pub once_same : (xs ys : List HeldCopy) → HaveSame xs ys → IsOnce xs → IsOnce ys
once_same xs ys same once n k = omega (arith, same (is_copy_of n k), once n k)

pub copies_of-same : (xs ys : List HeldCopy) → HaveSame xs ys → IsOnce xs → copies_of (stored xs)
    ≡ copies_of (stored ys)
copies_of-same xs ys same once = same_copies _ _ (λ i n k. place n k i)
    (sym (count_all xs) ∙ same (λ x. true) ∙ count_all ys)
    (λ i n. same (is_of n) i)
  where
    -- whether a copy lies where another one does
    lies : HeldCopy → HeldCopy → Bool
    lies c x = (x.at == c.at) && (x.length == c.length)

    itself : (c : HeldCopy) → lies c c ≡ true
    itself c = rw (eq-eqb c.at c.at refl, eq-eqb c.length c.length refl) refl

    place : (n k : ℕ) → option_map place_of (find (is_copy_of n k) xs) ≡ option_map place_of (find (is_copy_of n k) ys)
    place n k =
        let p : HeldCopy → Bool = is_copy_of n k in
        elim (finds p xs) [
          | inl none ↦ rw (none.0, none_of_none p ys (sym (same p) ∙ none.1)) refl
          | inr c ↦ elim (finds p ys) [
            | inl none ↦ absurd (omega (arith, c.3 p c.2, same p, none.1))
            | inr d ↦ elim (cases_Bool (lies c.0 d.0)) [
              | inl at ↦
                  let parts = and_parts (d.0.at == c.0.at) (d.0.length == c.0.length) at in
                  let here : place_of c.0 ≡ place_of d.0 =
                  λ i. record {
                    at = sym (eqb-true d.0.at c.0.at parts.0) i;
                    length = sym (eqb-true d.0.length c.0.length parts.1) i;
                  } in
                  rw (c.1, d.1) (ap (λ (q : Place). Some q) here)
              | inr apart ↦
                  let one = c.3 (λ x. lies c.0 x && p x) (rw (itself c.0, c.2) refl) in
                  let other = d.3 (λ x. not (lies c.0 x) && p x) (rw (apart, d.2) refl) in
                  absurd (omega (
                    arith,
                    one,
                    other,
                    same (λ x. lies c.0 x && p x),
                    same p,
                    once n k,
                    count_parts p (lies c.0) ys,
                    count-filter p (lies c.0) ys,
                    count-filter p (λ x. not (lies c.0 x)) ys,
                  ))
            ]
          ]
        ]

-- ---- one copy more

pub named_self : (one : HeldCopy) → is_copy_of one.node one.number one ≡ true
named_self one = rw (eq-eqb one.node one.node refl, eq-eqb one.number one.number refl) refl

pub once_more : (ys : List HeldCopy) (one : HeldCopy) → find (is_copy_of one.node one.number) ys ≡ None → IsOnce ys →
    IsOnce (one ∷ ys)
once_more ys one none once n k = elim (cases_Bool (is_copy_of n k one)) [
  | inl is ↦
      let key = key_of n k one is in
      let none_here : find (is_copy_of n k) ys ≡ None = (λ i. find (is_copy_of (sym key.0 i) (sym key.1 i)) ys) ∙
      none in
      omega (arith, none_if_none (is_copy_of n k) ys none_here, count_by-pass (is_copy_of n k) one ys true is)
  | inr other ↦ omega (arith, once n k, count_by-pass (is_copy_of n k) one ys false other)
]

pub copies_of-one_more : (one : HeldCopy) (copies : List HeldCopy)
    → copies_of (stored (one ∷ copies)) ≡ with_copy one.node one.number (place_of one) (copies_of (stored copies))
copies_of-one_more one copies = same_copies _ _ (λ i n k. place n k i) (omega arith) (λ i n. count n i)
  where
    place : (n k : ℕ) → option_map place_of (find (is_copy_of n k) (one ∷ copies))
        ≡ (if is_copy_of n k one then Some (place_of one) else option_map place_of (find (is_copy_of n k) copies))
    place n k = elim (cases_Bool (is_copy_of n k one)) [ inl is ↦ rw is refl | inr other ↦ rw other refl ]

    count : (n : ℕ) → count_by (is_of n) (one ∷ copies) ≡ (if one.node == n then count_by (is_of n) copies + 1 else
        count_by (is_of n) copies)
    count n = cond_both (one.node == n) (count_by (is_of n) copies + 1) (count_by (is_of n) copies)
        (λ m. count_by (is_of n) (one ∷ copies) ≡ m)
        (λ e. omega (arith, count_by-pass (is_of n) one copies true e))
        (λ e. omega (arith, count_by-pass (is_of n) one copies false e))

-- ---- one copy less

-- with none of a number, what is found but for it is what is found
but_none : (n k : ℕ) (f : ℕ → ℕ → Option Place) → f n k ≡ None → (m j : ℕ) →
    (if (n == m) && (k == j) then None else f m j) ≡ f m j
but_none n k f none m j = elim (cases_Bool ((n == m) && (k == j))) [
  | inl is ↦
      let parts = and_parts (n == m) (k == j) is in
      rw is (sym none ∙ (λ i. f (eqb-true n m parts.0 i) (eqb-true k j parts.1 i)))
  | inr other ↦ rw other refl
]

pub copies_of-none_less : (n k : ℕ) (copies : Copies) → copies.place_of n k ≡ None → without_copy n k copies ≡ copies
copies_of-none_less n k copies none = same_copies _ _
    (λ i m j. but_none n k copies.place_of none m j i) (rw none (omega arith)) (λ i m. count m (n == m) i)
  where
    count : (m : ℕ) (b : Bool) → (if b then copies.count_of m - (if is_some (copies.place_of n k) then 1 else 0) else
        copies.count_of m) ≡ copies.count_of m
    count m true = rw none (omega arith)
    count m false = refl

pub taken_again : (n k : ℕ) (place : Place) (copies : Copies) → copies.place_of n k ≡ None →
    without_copy n k (with_copy n k place copies) ≡ copies
taken_again n k place copies none = same_copies _ _
    (λ i m j. (twice ((n == m) && (k == j)) (copies.place_of m j) ∙ but_none n k copies.place_of none m j) i)
    (rw (eq-eqb n n refl, eq-eqb k k refl) (omega arith)) (λ i m. count m (n == m) i)
  where
    twice : (b : Bool) (o : Option Place) → (let p : Option Place = if b then None else (if b then Some place else o)
        in p) ≡ (if b then None else o)
    twice true o = refl
    twice false o = refl

    count : (m : ℕ) (b : Bool) → (if b then (if b then copies.count_of m + 1 else copies.count_of m)
        - (if is_some (if (n == n) && (k == k) then Some place else copies.place_of n k) then 1 else 0)
        else (if b then copies.count_of m + 1 else copies.count_of m)) ≡ copies.count_of m
    count m true = rw (eq-eqb n n refl, eq-eqb k k refl) (omega arith)
    count m false = refl

-- ---- a node's copies

-- those of the other nodes
abbrev pub others : ℕ → List HeldCopy → List HeldCopy
others node copies = filter (λ c. not (c.node == node)) copies

-- of the copies of a node n, those of another node are all or none
all_or_none : (node n m : ℕ) (b : Bool) → (b ≡ true → m ≡ n) → (not (m == node) && b) ≡ (not (n == node) && b)
all_or_none node n m true same = ap (λ (k : ℕ). not (k == node) && true) (same refl)
all_or_none node n m false same = grind arith

-- a node's copies are as many as go with it
pub count_by-is_of : (node : ℕ) (copies : List HeldCopy) → count_by (is_of node) copies + length (others node copies) ≡ length copies
count_by-is_of node copies = omega (arith, length-filter (is_of node) copies, length-filter_both (is_of node) (λ e. not (is_of node e)) (λ _. refl) copies)

pub copies_of-node_out : (node : ℕ) (copies : List HeldCopy) → copies_of (stored (others node copies)) ≡ without_node node (copies_of (stored copies))
copies_of-node_out node copies = same_copies _ _
    (λ i n k. place n k i) (omega (arith, count_by-is_of node copies)) (λ i n. count n i)
  where
    place : (n k : ℕ) → option_map place_of (find (is_copy_of n k) (others node copies)) ≡ (if n == node then None else option_map place_of (find (is_copy_of n k) copies))
    place n k =
        rw find-filter
        (ap (λ (p : HeldCopy → Bool). option_map place_of (find p copies))
        (λ i c. all_or_none node n c.node (is_copy_of n k c) (λ e. (key_of n k c e).0) i)
        ∙ elim (cases_Bool (n == node)) [
          | inl is ↦ rw is (ap (λ (o : Option HeldCopy). option_map place_of o)
              (none_found (λ c. false) copies (λ j d lt. refl)))
          | inr other ↦ rw other refl
        ])

    count : (n : ℕ) → count_by (is_of n) (others node copies) ≡ (if n == node then 0 else count_by (is_of n) copies)
    count n =
        count-filter (is_of n) (λ c. not (c.node == node)) copies
        ∙ ap (λ (p : HeldCopy → Bool). count_by p copies) (λ i c. all_or_none node n c.node (c.node == n)
        (λ e. eqb-true c.node n e) i)
        ∙ elim (cases_Bool (n == node)) [
          | inl is ↦ rw is (none_if_none (λ c. false) copies (none_found (λ c. false) copies (λ j d lt. refl)))
          | inr other ↦ rw other refl
        ]

-- ---- those that are held

pub held_all : (xs : List HeldCopy) → AreHeld xs → held_in xs ≡ xs
held_all [] e = refl
held_all (x ∷ xs) e =
    cond_both x.held (x ∷ held_in xs) (held_in xs) (λ (l : List HeldCopy). l ≡ x ∷ xs)
    (λ h. ap (λ (l : List HeldCopy). x ∷ l) (held_all xs
    (omega (arith, e, sum_by-cons (λ c. if not c.held then 1 else 0) x xs))))
    (λ h. absurd (omega (arith, e, count_by-pass (λ c. not c.held) x xs true (ap not h))))

pub held_are : (xs : List HeldCopy) → AreHeld (held_in xs)
held_are [] = refl
held_are (x ∷ xs) =
    cond_both x.held (x ∷ held_in xs) (held_in xs) AreHeld
    (λ h. omega (arith, count_by-pass (λ c. not c.held) x (held_in xs) false (ap not h), held_are xs)) (λ h.
    held_are xs)
