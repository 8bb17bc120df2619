-- Where held copies lie, entry by entry.
use Rattle.std.proofs.Common.{◌≡◌, ℕ, zero, suc, ◌+◌, ◌<◌, ◌≤◌, ◌==◌, ◌&&◌, ◌||◌, Bool, false, cond, if◌then◌else◌, List, [], ◌∷◌, ◌++◌, length, drop, get_or, Option, Some, None, refl, sym, ap, ◌∙◌, arith, rules}
use Rattle.gateway_book.proofs.Names.{and_right, AreBelow, at_drop_all, at_drop_more, begins_epoch, cond-false, cond_both, copies_after, copy_order, CopyPlaces, ForSome, held_packet, held_packet-push, HistoryAct, HistoryEntry, hold_by, hold_in, HoldCopies, if_after, le-ltb, lt-ltb, names, OnOk, packet_at, packet_of_hold, path_in, Result, slice_get, with_hold, with_path, without_holds}
use Rattle.std.specs.BTreeMap.{BTreeMap, Updates}
use Rattle.std.specs.List.{list_any}
use Rattle.std.specs.Ordering.{is_eq, nat_cmp, ordering_then}
use Rattle.std.specs.declared.cmp.Ordering.{Ordering}
use Rattle.gateway_book.specs.declared.held_copies.CopyKey.{CopyKey}
use Rattle.std.proofs.lemmas.Bool.Decides.{nat_tests}

-- ---- the maps

order_is : (a b : ℕ) → is_eq (nat_cmp a b) ≡ (a == b)
order_is a b = grind (arith, nat_tests)

then_is : (o p : Ordering) → is_eq (ordering_then o p) ≡ (is_eq o && is_eq p)
then_is o p = grind arith

pub on_ok : {T E P Q : Type 0} (r : Result T E) → (P → Q) → OnOk r P → OnOk r Q
on_ok r f p = search rules

copy_order_is : (key other : CopyKey) → is_eq (copy_order key other) ≡ ((key.node == other.node) && (key.number == other.number))
copy_order_is key other = grind (arith, then_is, order_is)

-- another entry for one key
pub with_one : (old new : BTreeMap CopyKey ℕ) (node number : ℕ) (place : Option ℕ) → Updates copy_order old new (record { node = node; number = number }) place
    → hold_in new ≡ with_hold node number place (hold_in old)
with_one old new node number place u = grind (arith, copy_order_is)

pub with_last : (old new : BTreeMap ℕ ℕ) (node k : ℕ) → Updates nat_cmp old new node (Some k) → path_in new ≡ with_path node k (path_in old)
with_last old new node k u = λ i n. (u.0 n ∙ ap (λ (b : Bool). cond b (Some k) (path_in old n)) (order_is node n)) i

none_dropped : (node : ℕ) (hold : ℕ → ℕ → Option ℕ) → without_holds node [] hold ≡ hold
none_dropped node hold = λ i n x. cond-false ((node == n) && false) None (hold n x) (and_right (node == n) false refl) i

left_out : {A : Type 0} (b here there : Bool) (none hold : A)
    → (if b && there then none else (if b && here then none else hold)) ≡ (if b && (here || there) then none else hold)
left_out b here there none hold = grind arith

one_dropped : (node y : ℕ) (ys : List ℕ) (hold : ℕ → ℕ → Option ℕ) → without_holds node ys (with_hold node y None hold) ≡ without_holds node (y ∷ ys) hold
one_dropped node y ys hold = λ i n x. left_out (node == n) (y == x) (list_any (λ z. z == x) ys) None (hold n x) i

-- a number is left out, and the rest are still to come
pub one_dropped_of : (node i y : ℕ) (ys : List ℕ) (old new : ℕ → ℕ → Option ℕ) → i < length ys → y ≡ get_or ys i 0 → new ≡ with_hold node y None old
    → without_holds node (drop (i + 1) ys) new ≡ without_holds node (drop i ys) old
one_dropped_of node i y ys old new lt here is =
    ap (λ (hold : ℕ → ℕ → Option ℕ). without_holds node (drop (i + 1) ys) hold) is
    ∙ one_dropped node y (drop (i + 1) ys) old
    ∙ ap (λ (x : ℕ). without_holds node (x ∷ drop (i + 1) ys) old) here
    ∙ sym (at_drop_more (λ (xs : List ℕ). without_holds node xs old) ys i 0 lt)

-- none is left
pub none_left : (node i : ℕ) (ys : List ℕ) (hold : ℕ → ℕ → Option ℕ) → length ys ≤ i → hold ≡ without_holds node (drop i ys) hold
none_left node i ys hold past = sym (at_drop_all (λ (xs : List ℕ). without_holds node xs hold) ys i past ∙ none_dropped node hold)

-- ---- places in a history

pub get_front : (h rest : List HistoryEntry) (k : ℕ) → k < length h → slice_get (h ++ rest) k ≡ slice_get h k
get_front [] rest k lt = absurd (omega (arith, lt))
get_front (x ∷ h) rest zero lt = refl
get_front (x ∷ h) rest (suc k) lt = get_front h rest k (omega (arith, lt))

get_last : (h : List HistoryEntry) (e : HistoryEntry) → slice_get (h ++ e ∷ []) (length h) ≡ Some e
get_last [] e = refl
get_last (x ∷ h) e = get_last h e

-- a place that is kept isn't moved
pub after_is : (path hold : Option ℕ) (P : ℕ → Type 0) → ForSome hold P → ForSome (if_after path hold) P
after_is path hold P is = search (rules, cond_both)

packet_still : (h : List HistoryEntry) (e : HistoryEntry) (place : Option ℕ) → ForSome place (λ k. k < length h) → packet_at (h ++ e ∷ []) place ≡ packet_at h place
packet_still h e place lt = grind (arith, get_front)

none_after : (k : ℕ) (hold : Option ℕ) → ForSome hold (λ j. j ≤ k) → if_after (Some k) hold ≡ None
none_after k hold le = grind (arith, le-ltb)

hold_by_is : (k : ℕ) (act : HistoryAct) → ForSome (hold_by k act) (λ j. j ≡ k)
hold_by_is k act = grind arith

-- what comes last comes after each path
last_after : (path : Option ℕ) (k : ℕ) (hold : Option ℕ) → ForSome path (λ p. p < k) → ForSome hold (λ j. j ≡ k) → if_after path hold ≡ hold
last_after path k hold lt is = grind (arith, lt-ltb)

packet_of_last : (h : List HistoryEntry) (e : HistoryEntry) (act : HistoryAct) → e.act ≡ act → packet_at (h ++ e ∷ []) (hold_by (length h) act) ≡ packet_of_hold act
packet_of_last h e act is = grind (arith, get_last)

-- ---- one entry more

pub hold_more : (copies : CopyPlaces) (h : List HistoryEntry) (e : HistoryEntry) → AreBelow (length h) copies → HoldCopies copies h
    → HoldCopies (copies_after (length h) e.act copies) (h ++ e ∷ [])
hold_more copies h e below held node number =
    held_packet-push node number h e ∙ by_tests (begins_epoch node e.act) (names node number e.act)
  where
    last : Option ℕ
    last = hold_by (length h) e.act

    last_is : ForSome last (λ j. j ≡ length h)
    last_is = hold_by_is (length h) e.act

    at : Option ℕ → Option (List ℕ)
    at o = packet_at (h ++ e ∷ []) o

    by_tests : (b n : Bool) → (if b then None else (if n then packet_of_hold e.act else held_packet node number h))
        ≡ packet_at (h ++ e ∷ []) (if_after (if b then Some (length h) else copies.path node) (if n then last else copies.hold node number))
    by_tests b n = grind (arith, none_after, last_is, last_after, packet_of_last, packet_still, after_is)

pub below_more : (k : ℕ) (act : HistoryAct) (copies : CopyPlaces) → AreBelow k copies → AreBelow (k + 1) (copies_after k act copies)
below_more k act copies below = search (rules, cond_both, hold_by_is)
