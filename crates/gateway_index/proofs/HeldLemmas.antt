-- What each step on held copies makes of those of a list of keys.
use Rattle.std.proofs.Common.{◌≡◌, ℕ, ◌+◌, ◌≤◌, ◌==◌, ◌&&◌, ◌||◌, not, Bool, true, false, if◌then◌else◌, List, [], ◌∷◌, ◌++◌, length, filter, count_by, refl, sym, ap, ◌∙◌, arith, inl, inr, ◌-◌, cond, Option, Some, None, is_some, length-append, subst}
use Rattle.gateway_index.proofs.Names.{acted, and_parts, append-nil, Cancel, cases_Bool, cond_both, Copies, copies_of, eqb-true, false_from_ne_true, File, held_by, held_keys, held_of, HeldKey, HistoryAct, HistoryEntry, Hold, holds, is_key, list_any, list_any-append, nat_tests, no_place, NodeId, or_parts, Path, Release, Seal, Side, with_copy, with_entry, with_fate, without_copies, without_copy, without_node}
use Rattle.std.proofs.lemmas.List.Sums.{sum_by-append, sum_by-cons, length-filter}
use Rattle.gw_base.specs.ListLaws.{by_last}
use Rattle.gw_base.specs.declared.scan.Copies.{Copies as CopyCounts}
use Rattle.gw_base.specs.declared.scan.HoldFate.{HoldFate}
use Rattle.gw_base.specs.declared.scan.HoldFate.TheVariants as fate
use Rattle.gw_base.specs.HeldLaws.{held_keys-append}
use Rattle.gw_base.specs.View.{stays_held}
use Rattle.std.proofs.lemmas.List.Filters.{length-filter_both, sum_by-filter_both}
use Rattle.std.proofs.Math.Bool.{and-false, and-true, or-false, or-true}
use Rattle.gw_base.specs.declared.history.Caller.{Caller}
use Rattle.gw_base.specs.declared.place.Place.{Place}
use Rattle.gateway_index.specs.Tells.{AreCopiesOf}
use Rattle.std.proofs.lemmas.List.Elements.{filter_agree}
use Rattle.std.proofs.lemmas.Map.Views.{any-filter_same}

abbrev pub one_if : Bool → ℕ
one_if b = if b then 1 else 0

pub count-cons : (p : HeldKey → Bool) (key : HeldKey) (keys : List HeldKey) → count_by p (key ∷ keys) ≡ (if p key then 1 else 0) + count_by p keys
count-cons p key keys = sum_by-cons (λ (k : HeldKey). if p k then 1 else 0) key keys

pub count-append : (p : HeldKey → Bool) (keys more : List HeldKey) → count_by p (keys ++ more) ≡ count_by p keys + count_by p more
count-append p keys more = sum_by-append (λ (k : HeldKey). if p k then 1 else 0) keys more

pub count-filter_le : (p q : HeldKey → Bool) (keys : List HeldKey) → count_by p (filter q keys) ≤ count_by p keys
count-filter_le p q keys =
    omega (arith, sum_by-filter_both q (λ key. not (q key)) (λ _. refl) (λ key. if p key then 1 else 0) keys)

-- of the keys that one test passes, another that passes all of these counts as many
among : (p q : HeldKey → Bool) → ((key : HeldKey) → p key ≡ true → q key ≡ true) → (keys : List HeldKey)
    → count_by q (filter p keys) ≡ count_by p keys
among p q all [] = refl
among p q all (key ∷ keys) =
    let rest = among p q all keys in
    cond_both (p key) (key ∷ filter p keys) (filter p keys) (λ (ks : List HeldKey). count_by q ks ≡ count_by p (key ∷ keys))
    (λ e. let counted : one_if (q key) ≡ 1 = ap one_if (all key e) in let one : one_if (p key) ≡ 1 = ap one_if e in
    omega (arith, rest, counted, one, count-cons q key (filter p keys), count-cons p key keys))
    (λ e. let one : one_if (p key) ≡ 0 = ap one_if e in omega (arith, rest, one, count-cons p key keys))

-- and one that passes none of them counts none
none_among : (p q : HeldKey → Bool) → ((key : HeldKey) → p key ≡ true → q key ≡ false) → (keys : List HeldKey)
    → count_by q (filter p keys) ≡ 0
none_among p q none keys =
    let others = among p (λ key. not (q key)) (λ key e. ap not (none key e)) keys in
    let kept = filter p keys in
    omega (
      arith,
      others,
      length-filter p keys,
      length-filter_both q (λ key. not (q key)) (λ _. refl) kept,
      length-filter q kept,
      length-filter (λ key. not (q key)) kept,
    )

-- the keys that one test passes are let go: of those that count, so many
pub count-without : (p q : HeldKey → Bool) → ((key : HeldKey) → p key ≡ true → q key ≡ true) → (keys : List HeldKey)
    → count_by q (filter (λ key. not (p key)) keys) + count_by p keys ≡ count_by q keys
count-without p q all keys =
    omega (arith, among p q all keys, sum_by-filter_both p (λ key. not (p key)) (λ _. refl) (λ key. if q key then 1 else 0) keys)

-- or none, where none of them counts
pub count-but : (p q : HeldKey → Bool) → ((key : HeldKey) → p key ≡ true → q key ≡ false) → (keys : List HeldKey)
    → count_by q (filter (λ key. not (p key)) keys) ≡ count_by q keys
count-but p q none keys =
    omega (arith, none_among p q none keys, sum_by-filter_both p (λ key. not (p key)) (λ _. refl) (λ key. if q key then 1 else 0) keys)

-- ---- each key is held once

equal_parts : (m y n x a b : ℕ) → ((m == n) && (y == x)) ≡ true → ((a == n) && (b == x)) ≡ true → ((m == a) && (y == b)) ≡ true
equal_parts m y n x a b e is = grind (arith, nat_tests)

pub held_once : (n x : ℕ) (h : List HistoryEntry) → count_by (λ key. is_key n x key) (held_keys h) ≤ 1
held_once n x h = by_last (λ (k : List HistoryEntry). count_by is (held_keys k) ≤ 1) (omega arith) more h
  where
    is : HeldKey → Bool
    is key = is_key n x key

    by_act : (act : HistoryAct) (keys : List HeldKey) → count_by is keys ≤ 1
        → count_by is (filter (λ key. stays_held act key) keys) + count_by is (held_by act []) ≤ 1
    by_act other keys most = grind (arith, count-cons, false_from_ne_true, equal_parts, none_among, count-filter_le)

    more : (k : List HistoryEntry) (e : HistoryEntry) → count_by is (held_keys k) ≤ 1 → count_by is (held_keys (k ++ e ∷ [])) ≤ 1
    more k e rest =
        omega (
          arith,
          ap (λ (keys : List HeldKey). count_by is keys) (held_keys-append k e),
          count-append is (filter (λ key. stays_held e.act key) (held_keys k)) (held_by e.act []),
          by_act e.act (held_keys k) rest,
        )

-- a test of keys passes as many as there are among keys that it passes once at most
pub count_once : (p : HeldKey → Bool) (keys : List HeldKey) → count_by p keys ≤ 1 → count_by p keys ≡ (if list_any p keys then 1 else 0)
count_once p [] most = refl
count_once p (key ∷ keys) most =
    let one = count-cons p key keys in
    elim (cases_Bool (p key)) [
      | inl e ↦ omega (arith, most, one, ap one_if e, ap (λ (r : Bool). one_if (r || list_any p keys)) e)
      | inr e ↦ omega (arith, most, one, ap one_if e, ap (λ (r : Bool). one_if (r || list_any p keys)) e, count_once p keys (omega (arith, most, one)))
    ]

-- ---- no more copies than entries

pub copies-le : (h : List HistoryEntry) → (copies_of h).held + (copies_of h).stranded ≤ length h
copies-le [] = omega arith
copies-le (e ∷ h) = by_act e.act (copies_of h) (copies-le h)
  where
    by_fate : (f : HoldFate) (copies : CopyCounts) → copies.held + copies.stranded ≤ length h
        → (with_fate f copies).held + (with_fate f copies).stranded ≤ length (e ∷ h)
    by_fate fate.Held copies most = omega (arith, most)
    by_fate _ copies most = omega (arith, most)

    by_act : (act : HistoryAct) (copies : CopyCounts) → copies.held + copies.stranded ≤ length h
        → (with_entry act h copies).held + (with_entry act h copies).stranded ≤ length (e ∷ h)
    by_act act copies most = grind arith

-- ---- what each step on held copies makes of those of a list of keys

-- ---- tests

pub same_numbers : (a b : ℕ) → (a == b) ≡ (b == a)
same_numbers a b = grind (arith, nat_tests)

same_keys : (a b c d : ℕ) → not ((a == b) && (c == d)) ≡ not ((b == a) && (d == c))
same_keys a b c d = grind (arith, nat_tests)

-- of two tests that pass one key the other's part is the same
other_key : (a b n x c d : ℕ) → ((a == n) && (b == x)) ≡ true → not ((a == c) && (b == d)) ≡ not ((c == n) && (d == x))
other_key a b n x c d is = grind (arith, nat_tests)

pass_all : (p : HeldKey → Bool) → ((key : HeldKey) → p key ≡ true) → (keys : List HeldKey) → filter p keys ≡ keys
pass_all p all [] = refl
pass_all p all (key ∷ keys) = rw (all key) (ap (λ (l : List HeldKey). key ∷ l) (pass_all p all keys))

filter_both : (p q : HeldKey → Bool) (keys : List HeldKey) → filter p (filter q keys) ≡ filter (λ key. q key && p key) keys
filter_both p q [] = refl
filter_both p q (key ∷ keys) = elim (cases_Bool (q key)) [
  | inl e ↦ rw e (ap (λ (ks : List HeldKey). cond (p key) (key ∷ ks) ks) (filter_both p q keys))
  | inr e ↦ rw e (filter_both p q keys)
]

-- the keys of a node
abbrev of_node : ℕ → HeldKey → Bool
of_node node key = key.node.0 == node

-- the keys but that of a node's number
abbrev others : ℕ → ℕ → List HeldKey → List HeldKey
others node number keys = filter (λ key. not (is_key node number key)) keys

key_parts : (n x : ℕ) (key : HeldKey) → is_key n x key ≡ true → (key.node.0 ≡ n) × (key.number ≡ x)
key_parts n x key is = let parts = and_parts (key.node.0 == n) (key.number == x) is in (eqb-true key.node.0 n parts.0, eqb-true key.number x parts.1)

-- each key is among them once
abbrev AreOnce : List HeldKey → Type 0
AreOnce keys = (n x : ℕ) → count_by (λ key. is_key n x key) keys ≤ 1

-- ---- one copy less

none_if : {A : Type 0} (b : Bool) (o : Option A) → is_some (if b then None else o) ≡ (not b && is_some o)
none_if b o = grind arith

without_one : (node number : ℕ) (copies : Copies) (keys : List HeldKey) → AreOnce keys → AreCopiesOf copies keys
    → AreCopiesOf (without_copy node number copies) (others node number keys)
without_one node number copies keys once are = record {
  places = λ n x. none_if ((node == n) && (number == x)) (copies.place_of n x) ∙ (λ i. not ((node == n) && (number == x)) && are.places n x i)
      ∙ sym (any-filter_same (λ (key : HeldKey). is_key n x key) (λ key. not (its key)) (not ((node == n) && (number == x)))
      (λ key is. other_key key.node.0 key.number n x node number is) keys);
  count = omega (arith, are.count, one, length-filter its keys, length-filter_both its (λ key. not (its key)) (λ _. refl) keys);
  counts = λ n. cond_both (node == n) (copies.count_of n - held_of node number copies) (copies.count_of n)
      (λ k. k ≡ count_by (of_node n) (others node number keys))
      (λ e. omega (arith, one, are.counts n, count-without its (of_node n) (λ key is. ap (λ (m : ℕ). m == n) ((key_parts node number key is).0) ∙ e) keys))
      (λ e. omega (arith, are.counts n, count-but its (of_node n) (λ key is. ap (λ (m : ℕ). m == n) ((key_parts node number key is).0) ∙ e) keys));
}
  where
    its : HeldKey → Bool
    its key = is_key node number key

    one : count_by its keys ≡ held_of node number copies
    one = count_once its keys (once node number) ∙ ap one_if (sym (are.places node number))

-- ---- those of a node less

without_all : (node : ℕ) (copies : Copies) (keys : List HeldKey) → AreCopiesOf copies keys
    → AreCopiesOf (without_node node copies) (filter (λ key. not (of_node node key)) keys)
without_all node copies keys are = record {
  places = λ n x. none_if (n == node) (copies.place_of n x) ∙ (λ i. not (n == node) && are.places n x i)
      ∙ sym (any-filter_same (λ (key : HeldKey). is_key n x key) (λ key. not (of_node node key)) (not (n == node))
      (λ key is. ap (λ (m : ℕ). not (m == node)) ((key_parts n x key is).0)) keys);
  count = omega (arith, are.count, are.counts node, length-filter its keys, length-filter_both its (λ key. not (its key)) (λ _. refl) keys);
  counts = λ n. cond_both (n == node) 0 (copies.count_of n) (λ k. k ≡ count_by (of_node n) (filter (λ key. not (its key)) keys))
      (λ e. let same : n ≡ node = eqb-true n node e in
      omega (arith, ap (λ (m : ℕ). count_by (of_node m) keys) same, count-without its (of_node n) (λ key is. ap (λ (m : ℕ). key.node.0 == m) same ∙ is) keys))
      (λ e. omega (
        arith,
        are.counts n,
        count-but its (of_node n) (λ key is. ap (λ (m : ℕ). m == n) (eqb-true key.node.0 node is) ∙ same_numbers node n ∙ e) keys,
      ));
}
  where
    its : HeldKey → Bool
    its key = of_node node key

-- ---- one copy more

with_one : (node : NodeId) (number : ℕ) (place : Place) (copies : Copies) (keys : List HeldKey) → AreCopiesOf copies keys
    → AreCopiesOf (with_copy node.0 number place copies) (keys ++ record { node = node; number = number } ∷ [])
with_one node number place copies keys are = record {
  places = λ n x. placed n x ((node.0 == n) && (number == x)) ∙ sym (list_any-append (λ key. is_key n x key) keys (key ∷ []));
  count = omega (arith, are.count, length-append keys (key ∷ []));
  counts = λ n. cond_both (node.0 == n) (copies.count_of n + 1) (copies.count_of n) (λ k. k ≡ count_by (of_node n) (keys ++ key ∷ []))
      (λ e. let one : one_if (of_node n key) ≡ 1 = ap one_if e in
      omega (arith, are.counts n, one, count-cons (of_node n) key [], count-append (of_node n) keys (key ∷ [])))
      (λ e. let none : one_if (of_node n key) ≡ 0 = ap one_if e in
      omega (arith, are.counts n, none, count-cons (of_node n) key [], count-append (of_node n) keys (key ∷ [])));
}
  where
    key : HeldKey
    key = record { node = node; number = number }

    placed : (n x : ℕ) (b : Bool) → is_some (if b then Some place else copies.place_of n x) ≡ (holds n x keys || (b || false))
    placed n x b = grind (arith, or-true, or-false)

-- ---- those of a list less

once_filter : (q : HeldKey → Bool) (keys : List HeldKey) → AreOnce keys → AreOnce (filter q keys)
once_filter q keys once n x = omega (arith, once n x, count-filter_le (λ key. is_key n x key) q keys)

next_stays : (a l y : Bool) → (not (a && y) && not (a && l)) ≡ not (a && (y || l))
next_stays a l y = grind arith

-- whether a key is none of these numbers of a node
abbrev is_other : ℕ → List ℕ → HeldKey → Bool
is_other node numbers key = not ((node == key.node.0) && list_any (λ y. y == key.number) numbers)

without_list : (node : ℕ) (numbers : List ℕ) (copies : Copies) (keys : List HeldKey) → AreOnce keys → AreCopiesOf copies keys
    → AreCopiesOf (without_copies node numbers copies) (filter (is_other node numbers) keys)
unfolding without_copies
without_list node [] copies keys once are = rw (pass_all (is_other node []) (λ key. ap not (and-false (node == key.node.0))) keys) are
without_list node (number ∷ numbers) copies keys once are =
    subst (λ (ks : List HeldKey). AreCopiesOf (without_copies node numbers (without_copy node number copies)) ks)
    (filter_both (is_other node numbers) (λ key. not (is_key node number key)) keys
    ∙ filter_agree (λ (key : HeldKey). not (is_key node number key) && is_other node numbers key) (is_other node (number ∷ numbers)) both keys)
    (without_list node numbers (without_copy node number copies) (others node number keys)
    (once_filter (λ key. not (is_key node number key)) keys once) (without_one node number copies keys once are))
  where
    both : (key : HeldKey) → (not (is_key node number key) && is_other node numbers key) ≡ is_other node (number ∷ numbers) key
    both key = ap (λ (b : Bool). b && is_other node numbers key) (same_keys key.node.0 node key.number number)
        ∙ next_stays (node == key.node.0) (list_any (λ y. y == key.number) numbers) (number == key.number)

-- ---- an entry that names a number which isn't held

not_listed : (node number : ℕ) (keys : List HeldKey) → holds node number keys ≡ false → others node number keys ≡ keys
not_listed node number [] none = refl
not_listed node number (key ∷ keys) none =
    let parts = or_parts (is_key node number key) (holds node number keys) none in
    rw parts.0 (ap (λ (ks : List HeldKey). key ∷ ks) (not_listed node number keys parts.1))

-- ---- one entry more

abbrev entry_of : ℕ → Caller → HistoryAct → HistoryEntry
entry_of moment caller act = record { moment = moment; caller = caller; act = act }

-- no copy of what a File, a Hold or a Seal names is held
abbrev pub NamesFree : HistoryAct → Copies → Type 0
NamesFree (File n x packet) copies = is_some (copies.place_of n.0 x) ≡ false
NamesFree (Hold n x packet) copies = is_some (copies.place_of n.0 x) ≡ false
NamesFree (Seal n x) copies = is_some (copies.place_of n.0 x) ≡ false
NamesFree _ copies = Unit {0}

-- the held keys that stay where an entry names one number
one_stays : (n : NodeId) (x : ℕ) (keys : List HeldKey) → holds n.0 x keys ≡ false
    → filter (λ key. not ((n.0 == key.node.0) && (x == key.number))) keys ≡ keys
one_stays n x keys none =
    filter_agree (λ (key : HeldKey). not ((n.0 == key.node.0) && (x == key.number))) (λ key. not (is_key n.0 x key))
    (λ key. same_keys n.0 key.node.0 x key.number) keys ∙ not_listed n.0 x keys none

pub held_after : (side : Side) (h : List HistoryEntry) (moment : ℕ) (caller : Caller) (act : HistoryAct) → NamesFree act side.held
    → AreCopiesOf side.held (held_keys h) → AreCopiesOf (acted act side).held (held_keys (h ++ entry_of moment caller act ∷ []))
held_after side h moment caller act free are = rw (held_keys-append h (entry_of moment caller act)) (by_act act free)
  where
    keys : List HeldKey
    keys = held_keys h

    once : AreOnce keys
    once n x = held_once n x h

    by_act : (act : HistoryAct) → NamesFree act side.held
        → AreCopiesOf (acted act side).held (filter (λ key. stays_held act key) keys ++ held_by act [])
    by_act (File n x packet) free = rw (append-nil, one_stays n x keys (sym (are.places n.0 x) ∙ free)) are
    by_act (Seal n x) free = rw (append-nil, one_stays n x keys (sym (are.places n.0 x) ∙ free)) are
    by_act (Hold n x packet) free = rw (one_stays n x keys (sym (are.places n.0 x) ∙ free)) (with_one n x no_place side.held keys are)
    by_act (Path n port counter) free =
        let gone : (key : HeldKey) → stays_held (Path n port counter) key ≡ not (of_node n.0 key) =
        λ key. and-true (not (n.0 == key.node.0)) ∙ ap not (same_numbers n.0 key.node.0) in
        rw (append-nil, filter_agree (λ (key : HeldKey). stays_held (Path n port counter) key) (λ key. not (of_node n.0 key)) gone keys) (without_all n.0 side.held keys are)
    by_act (Release n xs) free = rw append-nil (without_list n.0 xs side.held keys once are)
    by_act (Cancel n xs) free = rw append-nil (without_list n.0 xs side.held keys once are)
    by_act other free = rw (append-nil, pass_all (λ key. stays_held other key) (λ key. refl) keys) are
