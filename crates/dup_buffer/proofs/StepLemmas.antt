-- What each step on the two lists makes of the copies that are held.
use Rattle.std.proofs.Common.{◌≡◌, ℕ, ◌+◌, ◌<◌, ◌≤◌, ◌==◌, ◌&&◌, not, Bool, true, false, if◌then◌else◌, List, ◌∷◌, ◌++◌, Option, None, Some, length, filter, refl, sym, ap, subst, ◌∙◌, arith, length-append}
use Rattle.std.specs.List.{count_by, find}
use Rattle.std.specs.Option.{option_map, option_or}
use Rattle.std.proofs.lemmas.List.Elements.{filter-append}
use Rattle.std.proofs.lemmas.List.Sums.{count_by-le-length, length-filter, sum_by-cons}
use Rattle.std.proofs.lemmas.List.Folds.{find-append}
use Rattle.dup_buffer.specs.Copies.{with_copy, without_node}
use Rattle.dup_buffer.specs.Stored.{AreFrom, AreHeld, AreStored, HaveSame, IsOnce, all_held, copies_of, held_in, is_copy_of, is_of, most_late, place_of}
use Rattle.dup_buffer.specs.declared.copy.HeldCopy.{HeldCopy}
use Rattle.dup_buffer.proofs.StoredLemmas.{copies_of-node_out, copies_of-one_more, copies_of-same, count-append, count_by-is_of, count_by-pass, count_parts, filter-filter, found_counts, held_all, held_are, none_if_none, none_of_none, once_more, once_same, others, stored}
use Rattle.dup_buffer.proofs.HeldLemmas.{IsLess, less_before, more_behind, one_less, same_length}
use Rattle.dup_buffer.proofs.OrderLemmas.{from-filter}

-- ---- finding

pub found_late : (n k : ℕ) (kept late : List HeldCopy) (c : HeldCopy) → IsOnce (kept ++ late) → find (is_copy_of n k) late ≡ Some c → find (is_copy_of n k) (kept ++ late) ≡ Some c
found_late n k kept late c once e =
    find-append p kept late ∙ ap (λ (o : Option HeldCopy). option_or o (find p late)) (none_of_none p kept
    (omega (arith, once n k, count-append p kept late, found_counts p late c e))) ∙ e
  where
    p : HeldCopy → Bool
    p = is_copy_of n k

pub found_kept : (p : HeldCopy → Bool) (kept late : List HeldCopy) → find p late ≡ None → find p (kept ++ late) ≡ find p kept
found_kept p kept late e =
    find-append p kept late ∙ ap (λ (o : Option HeldCopy). option_or (find p kept) o) e ∙ by (find p kept)
  where
    by : (o : Option HeldCopy) → option_or o None ≡ o
    by None = refl
    by (Some c) = refl

-- ---- holding

pub few_held : (kept late : List HeldCopy) → length (all_held kept late) ≤ length kept + length late
few_held kept late =
    omega (
      arith,
      length-append (held_in kept) late,
      length-filter (λ (c : HeldCopy). c.held) kept,
      count_by-le-length (λ (c : HeldCopy). c.held) kept,
    )

pub none_late : (p : HeldCopy → Bool) (kept late new_kept new_late : List HeldCopy) → HaveSame (all_held kept late) (all_held new_kept new_late)
    → find p (all_held kept late) ≡ None → find p new_late ≡ None
none_late p kept late new_kept new_late same none =
    none_of_none p new_late
    (omega (arith, same p, none_if_none p (all_held kept late) none, count-append p (held_in new_kept) new_late))

-- a copy came into the short list
pub record IsHeld (one : HeldCopy) (old : List HeldCopy) (kept late : List HeldCopy) : Type 0 where
  pub lists : AreStored kept late
  pub copies : copies_of (stored (all_held kept late)) ≡ with_copy one.node one.number (place_of one) (copies_of (stored old))
  pub count : length (all_held kept late) ≡ length old + 1

pub held_one : (one : HeldCopy) (old kept late new : List HeldCopy) → HaveSame old (all_held kept late) → find (is_copy_of one.node one.number) old ≡ None → IsOnce old
    → one.held ≡ true → AreStored kept late → length late < most_late → AreFrom 0 new → HaveSame (one ∷ late) new → IsHeld one old kept new
held_one one old kept late new same none once held is room order more =
    let grown : HaveSame (one ∷ old) (all_held kept new) = (λ p. omega (arith, same p, sum_by-cons (λ c. if p c then 1 else 0) one old, sum_by-cons (λ c. if p c then 1 else 0) one (all_held kept late), more_behind one (held_in kept) late new more p)) in
    let all = once_more old one none once in
    record {
      lists = record {
        kept_order = is.kept_order;
        late_order = order;
        held = omega (arith, is.held, more (λ c. not c.held), count_by-pass (λ c. not c.held) one late false (ap not held));
        few = omega (arith, room, same_length (one ∷ late) new more);
        once = once_same (one ∷ old) (all_held kept new) grown all;
      };
      copies = sym (copies_of-same (one ∷ old) (all_held kept new) grown all) ∙ copies_of-one_more one old;
      count = omega (arith, same_length (one ∷ old) (all_held kept new) grown);
    }

pub no_place : (o : Option HeldCopy) → option_map place_of o ≡ None → o ≡ None
no_place None e = refl
no_place (Some copy) e = absurd (cc)

-- ---- taking out

pub record IsTaken (one : HeldCopy) (node number : ℕ) (old : List HeldCopy) (kept late : List HeldCopy) : Type 0 where
  pub lists : AreStored kept late
  pub less : IsLess one node number old (all_held kept late)

pub took_late : (one : HeldCopy) (node number : ℕ) (kept late new : List HeldCopy) → AreStored kept late → is_copy_of node number one ≡ true → AreFrom 0 new
    → HaveSame late (one ∷ new) → IsTaken one node number (all_held kept late) kept new
took_late one node number kept late new is named order same =
    let less : IsLess one node number (all_held kept late) (all_held kept new) =
    one_less one node number (all_held kept late) (all_held kept new) named
    is.once (λ p. sym (more_behind one (held_in kept) new late (λ q. sym (same q)) p)) in
    record {
      lists = record {
        kept_order = is.kept_order;
        late_order = order;
        held = omega (arith, is.held, same (λ c. not c.held), sum_by-cons (λ c. if not c.held then 1 else 0) one new);
        few = omega (arith, is.few, same_length late (one ∷ new) same);
        once = less.once;
      };
      less = less;
    }

pub took_kept : (one : HeldCopy) (node number : ℕ) (kept late new : List HeldCopy) → AreStored kept late → is_copy_of node number one ≡ true → AreFrom 0 new
    → HaveSame (held_in kept) (one ∷ held_in new) → IsTaken one node number (all_held kept late) new late
took_kept one node number kept late new is named order same =
    let less : IsLess one node number (all_held kept late) (all_held new late) = one_less one node number (all_held kept late) (all_held new late) named is.once (less_before one (held_in kept) late (held_in new) same) in
    record { lists = record { kept_order = order; late_order = is.late_order; held = is.held; few = is.few; once = less.once }; less = less }

-- ---- a node's copies

-- those of the other nodes that are held
abbrev pub left_in : ℕ → List HeldCopy → List HeldCopy
left_in node copies = filter (λ c. c.held && not (c.node == node)) copies

left_is : (node : ℕ) (copies : List HeldCopy) → left_in node copies ≡ others node (held_in copies)
left_is node copies = sym (filter-filter (λ c. not (c.node == node)) (λ c. c.held) copies)

fewer_all : (q : HeldCopy → Bool) (xs : List HeldCopy) → length (filter q xs) ≤ length xs
fewer_all q xs = omega (arith, length-filter q xs, count_by-le-length q xs)

left_held : (node : ℕ) (copies : List HeldCopy) → AreHeld (left_in node copies)
left_held node copies =
    let few = count_parts (λ c. not c.held) (λ c. not (c.node == node)) (held_in copies) in
    omega (arith, few, held_are copies, ap (count_by (λ c. not c.held)) (left_is node copies))

-- none is left that isn't held
pub left_length : (node : ℕ) (kept late : List HeldCopy) → length (left_in node kept) + length (left_in node late) ≡ length (all_held (left_in node kept) (left_in node late))
left_length node kept late =
    omega (arith, ap (λ (l : List HeldCopy). length l) (held_all (left_in node kept) (left_held node kept)), length-append (held_in (left_in node kept)) (left_in node late))

pub left_all : (node : ℕ) (kept late : List HeldCopy) → AreHeld late → all_held (left_in node kept) (left_in node late) ≡ others node (all_held kept late)
left_all node kept late held =
    (λ i. held_all (left_in node kept) (left_held node kept) i ++ left_in node late)
    ∙ (λ i. left_is node kept i ++ left_is node late i)
    ∙ (λ i. others node (held_in kept) ++ others node (held_all late held i))
    ∙ sym (filter-append (λ c. not (c.node == node)) (held_in kept) late)

-- how many there were, where the lists are those that are left
pub gone_count : (node : ℕ) (kept late new_kept new_late : List HeldCopy) → AreHeld late → new_kept ≡ left_in node kept → new_late ≡ left_in node late
    → length new_kept + length new_late + count_by (is_of node) (all_held kept late) ≡ length (all_held kept late)
gone_count node kept late new_kept new_late held k l =
    let size : List HeldCopy → ℕ = λ xs. length xs in
    omega (
      arith,
      ap size k,
      ap size l,
      left_length node kept late,
      ap size (left_all node kept late held),
      count_by-is_of node (all_held kept late),
    )

once_filter : (q : HeldCopy → Bool) (xs : List HeldCopy) → IsOnce xs → IsOnce (filter q xs)
once_filter q xs once n k = omega (arith, once n k, count_parts (is_copy_of n k) q xs)

pub left_stored : (node : ℕ) (kept late : List HeldCopy) → AreStored kept late → AreStored (left_in node kept) (left_in node late)
left_stored node kept late is = record {
  kept_order = from-filter (λ c. c.held && not (c.node == node)) 0 kept is.kept_order;
  late_order = from-filter (λ c. c.held && not (c.node == node)) 0 late is.late_order;
  held = left_held node late;
  few = omega (arith, is.few, fewer_all (λ c. c.held && not (c.node == node)) late);
  once = subst IsOnce (sym (left_all node kept late is.held)) (once_filter (λ c. not (c.node == node)) (all_held kept late) is.once);
}

pub left_copies : (node : ℕ) (kept late : List HeldCopy) → AreHeld late
    → copies_of (stored (all_held (left_in node kept) (left_in node late))) ≡ without_node node (copies_of (stored (all_held kept late)))
left_copies node kept late held =
    ap (λ (l : List HeldCopy). copies_of (stored l)) (left_all node kept late held) ∙ copies_of-node_out node (all_held kept late)

-- ---- copying

pub copied_all : (kept late : List HeldCopy) → AreHeld late → all_held (held_in kept) (held_in late) ≡ all_held kept late
copied_all kept late held = λ i. held_all (held_in kept) (held_are kept) i ++ held_all late held i

pub copied_same : (kept late other_kept other_late new_kept new_late : List HeldCopy) → AreHeld late → other_kept ≡ kept → other_late ≡ late
    → new_kept ≡ held_in other_kept → new_late ≡ held_in other_late → all_held new_kept new_late ≡ all_held kept late
copied_same kept late other_kept other_late new_kept new_late held k l nk nl =
    (λ i. all_held (nk i) (nl i)) ∙ (λ i. all_held (held_in (k i)) (held_in (l i))) ∙ copied_all kept late held

pub copied_stored : (kept late : List HeldCopy) → AreStored kept late → AreStored (held_in kept) (held_in late)
copied_stored kept late is = record {
  kept_order = from-filter (λ c. c.held) 0 kept is.kept_order;
  late_order = from-filter (λ c. c.held) 0 late is.late_order;
  held = held_are late;
  few = omega (arith, is.few, fewer_all (λ c. c.held) late);
  once = subst IsOnce (sym (copied_all kept late is.held)) is.once;
}
