-- Lists of which some copies were taken out, and what each step makes of those that are held.
use Rattle.std.proofs.Common.{◌≡◌, ℕ, zero, suc, ◌+◌, ◌<◌, ◌==◌, ◌&&◌, not, Bool, true, false, if◌then◌else◌, List, [], ◌∷◌, ◌++◌, Option, None, Some, length, take, slice_index_or, refl, sym, ap, subst, ◌∙◌, arith, inl, inr}
use Rattle.std.specs.List.{count_by, find}
use Rattle.std.specs.Option.{option_map}
use Rattle.std.specs.Prelude.{slice_set}
use Rattle.std.proofs.lemmas.Bool.{cases_Bool, cases_eq, eq-eqb}
use Rattle.std.proofs.lemmas.List.{append-nil, get_or_default}
use Rattle.std.proofs.lemmas.List.Sums.{length-filter, sum_by-cons, sum_by-set, sum_by_more_le}
use Rattle.dup_buffer.specs.Copies.{Copies, with_copy, without_copy}
use Rattle.dup_buffer.specs.Stored.{AreFrom, AreHeld, AreStored, HaveSame, IsFound, IsOnce, all_held, copies_of, held_in, is_copy_of, place_of, rank}
use Rattle.dup_buffer.specs.declared.copy.HeldCopy.{HeldCopy}
use Rattle.dup_buffer.proofs.OrderLemmas.{key_of, none_found}
use Rattle.dup_buffer.proofs.StoredLemmas.{copies_of-one_more, copies_of-same, count-append, count-filter, count_all, count_by-pass, count_parts, find-filter, first_here, held_all, held_are, none_if_none, none_of_none, once_same, stored, taken_again}

-- ---- finding

pub none_held : (p : HeldCopy → Bool) (xs : List HeldCopy) → find p xs ≡ None → find p (held_in xs) ≡ None
none_held p xs e = none_of_none p (held_in xs) (omega (arith, count_parts p (λ c. c.held) xs, none_if_none p xs e))

pub held_found : (n k : ℕ) (copies : List HeldCopy) (at : ℕ) (d : HeldCopy) → IsFound copies at n k
    → find (is_copy_of n k) (held_in copies) ≡ (if (slice_index_or copies at d).held then Some (slice_index_or copies at d) else None)
held_found n k copies at d is = find-filter (is_copy_of n k) (λ c. c.held) copies ∙ elim (cases_Bool one.held) [
  | inl held ↦ rw held (first_here p copies at d is.inside (rw (held, is.named d) refl)
      (λ j e lt. other j e (is.others j e (omega (arith, lt, is.inside)) (λ same. omega (arith, same, lt)))))
  | inr out ↦ rw out (none_found p copies (λ j e lt. elim (cases_eq j at) [
    | inl same ↦ ap (λ (c : HeldCopy). p c) (ap (λ (m : ℕ). slice_index_or copies m e) same ∙
        get_or_default copies at e d is.inside) ∙ rw out refl
    | inr ne ↦ other j e (is.others j e lt ne)
  ]))
]
  where
    one : HeldCopy
    one = slice_index_or copies at d

    p : HeldCopy → Bool
    p c = c.held && is_copy_of n k c

    other : (j : ℕ) (e : HeldCopy) → is_copy_of n k (slice_index_or copies j e) ≡ false → p (slice_index_or copies j e)
        ≡ false
    other j e apart = grind arith

-- ---- marking

pub from-set : (low : ℕ) (copies : List HeldCopy) (at : ℕ) (y d : HeldCopy) → AreFrom low copies → rank y ≡ rank (slice_index_or copies at d) → at < length copies
    → AreFrom low (slice_set copies at y)
from-set low [] at y d up same lt = absurd (omega (arith, lt))
from-set low (copy ∷ copies) zero y d up same lt = (omega (arith, up.0, same), subst (λ k. AreFrom (k + 1) copies) (sym same) up.1)
from-set low (copy ∷ copies) (suc at) y d up same lt = (up.0, from-set (rank copy + 1) copies at y d up.1 same (omega (arith, lt)))

pub mark_same : (copies : List HeldCopy) (at : ℕ) (y d : HeldCopy) → at < length copies → (slice_index_or copies at d).held ≡ true → y.held ≡ false
    → HaveSame (held_in copies) (slice_index_or copies at d ∷ held_in (slice_set copies at y))
mark_same copies at y d lt was is p =
    omega (
      arith,
      count-filter p (λ c. c.held) copies,
      count-filter p (λ c. c.held) (slice_set copies at y),
      sum_by-cons (λ c. if p c then 1 else 0) one (held_in (slice_set copies at y)),
      sum_by-set (λ c. if c.held && p c then 1 else 0) copies at y d lt,
      ap {B = ℕ} (λ (b : Bool). if b && p one then 1 else 0) was,
      ap {B = ℕ} (λ (b : Bool). if b && p y then 1 else 0) is,
    )
  where
    one : HeldCopy
    one = slice_index_or copies at d

-- ---- copying

pub held_room : (others : List HeldCopy) (i : ℕ) (d : HeldCopy) → i < length others → (slice_index_or others i d).held ≡ true
    → length (held_in (take i others)) < length (held_in others)
held_room others i d lt h =
    omega (
      arith,
      length-filter (λ (c : HeldCopy). c.held) (take i others),
      length-filter (λ (c : HeldCopy). c.held) others,
      sum_by_more_le (λ (c : HeldCopy). if c.held then 1 else 0) others i d lt,
      ap {B = ℕ} (λ (b : Bool). if b then 1 else 0) h,
    )

-- ---- one more, and one less

pub same_length : (xs ys : List HeldCopy) → HaveSame xs ys → length xs ≡ length ys
same_length xs ys same = sym (count_all xs) ∙ same (λ x. true) ∙ count_all ys

-- what holds of the copies with one less
pub record IsLess (one : HeldCopy) (node number : ℕ) (old new : List HeldCopy) : Type 0 where
  pub once : IsOnce new
  pub found : option_map place_of (find (is_copy_of node number) old) ≡ Some (place_of one)
  pub copies : copies_of (stored new) ≡ without_copy node number (copies_of (stored old))
  pub count : length old ≡ length new + 1

pub one_less : (one : HeldCopy) (node number : ℕ) (old new : List HeldCopy) → is_copy_of node number one ≡ true → IsOnce old → HaveSame old (one ∷ new) → IsLess one node number old new
one_less one node number old new named once same = record {
  once = λ n k. omega (arith, all n k, sum_by-cons (λ c. if is_copy_of n k c then 1 else 0) one new);
  found = ap (λ (c : Copies). c.place_of node number) was ∙ rw here refl;
  copies = sym (ap (λ (c : Copies). without_copy node number c) was ∙ taken_again node number (place_of one) (copies_of (stored new)) (ap (λ (o : Option HeldCopy). option_map place_of o) none));
  count = omega (arith, same_length old (one ∷ new) same);
}
  where
    all : IsOnce (one ∷ new)
    all = once_same old (one ∷ new) same once

    key : (one.node ≡ node) × (one.number ≡ number)
    key = key_of node number one named

    here : ((node == node) && (number == number)) ≡ true
    here = rw (eq-eqb node node refl, eq-eqb number number refl) refl

    none : find (is_copy_of node number) new ≡ None
    none = none_of_none (is_copy_of node number) new (omega (arith, all node number, count_by-pass (is_copy_of node number) one new true named))

    was : copies_of (stored old) ≡ with_copy node number (place_of one) (copies_of (stored new))
    was = copies_of-same old (one ∷ new) same once
        ∙ copies_of-one_more one new
        ∙ (λ i. with_copy (key.0 i) (key.1 i) (place_of one) (copies_of (stored new)))

-- ---- a list of two

pub more_behind : (one : HeldCopy) (xs ys zs : List HeldCopy) → HaveSame (one ∷ ys) zs → HaveSame (one ∷ (xs ++ ys)) (xs ++ zs)
more_behind one xs ys zs same p =
    omega (
      arith,
      same p,
      count-append p xs ys,
      count-append p xs zs,
      sum_by-cons (λ c. if p c then 1 else 0) one ys,
      sum_by-cons (λ c. if p c then 1 else 0) one (xs ++ ys),
    )

pub less_before : (one : HeldCopy) (xs ys zs : List HeldCopy) → HaveSame xs (one ∷ zs) → HaveSame (xs ++ ys) (one ∷ (zs ++ ys))
less_before one xs ys zs same p =
    omega (
      arith,
      same p,
      count-append p xs ys,
      count-append p zs ys,
      sum_by-cons (λ c. if p c then 1 else 0) one zs,
      sum_by-cons (λ c. if p c then 1 else 0) one (zs ++ ys),
    )

-- ---- the two lists made one

-- none was taken out of what both lists were made
pub settled_held : (kept late new : List HeldCopy) → AreHeld late → HaveSame (all_held kept late) new → AreHeld new
settled_held kept late new held same =
    omega (arith, held, held_are kept, same (λ c. not c.held), count-append (λ c. not c.held) (held_in kept) late)

pub merged_all : (kept late left other new : List HeldCopy) → left ≡ held_in kept → other ≡ late → HaveSame (left ++ other) new → HaveSame (all_held kept late) new
merged_all kept late left other new l o same p = (λ i. count_by p (sym l i ++ sym o i)) ∙ same p

pub settled_all : (kept late new : List HeldCopy) → AreHeld late → HaveSame (all_held kept late) new → all_held new [] ≡ new
settled_all kept late new held same = append-nil (held_in new) ∙ held_all new (settled_held kept late new held same)

pub settled_stored : (kept late new : List HeldCopy) → AreStored kept late → AreFrom 0 new → HaveSame (all_held kept late) new → AreStored new []
settled_stored kept late new is order same = record {
  kept_order = order;
  late_order = tt;
  held = refl;
  few = omega arith;
  once = subst IsOnce (sym (settled_all kept late new is.held same)) (once_same (all_held kept late) new same is.once);
}
