-- Two lists in order made one, from their ends.
use Rattle.std.proofs.Common.{◌≡◌, ℕ, ◌+◌, ◌-◌, ◌<◌, ◌≤◌, Bool, false, if◌then◌else◌, List, [], ◌∷◌, ◌++◌, length, take, drop, slice_index_or, refl, sym, ap, subst, ◌∙◌, arith, inl, inr}
use Rattle.std.specs.List.{count_by}
use Rattle.std.specs.Prelude.{slice_set}
use Rattle.std.proofs.lemmas.Bool.{cases_lt, false_from_ne_true}
use Rattle.std.proofs.lemmas.List.{drop-set-lt, drop_all, drop_more, get_or-set_same, length-append, length-set, take-append-drop, take-set-le, take_all, take_at, take_more}
use Rattle.std.proofs.lemmas.List.Sums.{sum_by-cons, sum_by_more}
use Rattle.dup_buffer.specs.Stored.{AreFrom, HaveSame, IsMerging, IsOnce, above, is_copy_of, rank}
use Rattle.dup_buffer.specs.declared.copy.HeldCopy.{HeldCopy}
use Rattle.dup_buffer.proofs.StoredLemmas.{count-append, named_self}

from_front : (low : ℕ) (xs ys : List HeldCopy) → AreFrom low (xs ++ ys) → AreFrom low xs
from_front low [] ys up = tt
from_front low (x ∷ xs) ys up = (up.0, from_front (rank x + 1) xs ys up.1)

from_back : (low : ℕ) (xs ys : List HeldCopy) → AreFrom low (xs ++ ys) → AreFrom (above low xs) ys
from_back low [] ys up = up
from_back low (x ∷ xs) ys up = from_back (rank x + 1) xs ys up.1

above-push : (low : ℕ) (xs : List HeldCopy) (x : HeldCopy) → above low (xs ++ x ∷ []) ≡ rank x + 1
above-push low [] x = refl
above-push low (y ∷ xs) x = above-push (rank y + 1) xs x

-- the last of the first n, and those in front of it
module _ (copies : List HeldCopy) (n m : ℕ) (d : HeldCopy) (size : n ≡ m + 1) (inside : m < length copies) where
  last_of : take n copies ≡ take m copies ++ slice_index_or copies m d ∷ []
  last_of = rw size (take_more copies m d inside)

  above-last : above 0 (take n copies) ≡ rank (slice_index_or copies m d) + 1
  above-last = ap (above 0) last_of ∙ above-push 0 (take m copies) (slice_index_or copies m d)

  front_last : AreFrom 0 (take n copies) → AreFrom 0 (take m copies)
  front_last up = from_front 0 (take m copies) (slice_index_or copies m d ∷ []) (subst (AreFrom 0) last_of up)

  fits_last : AreFrom 0 (take n copies) → above 0 (take m copies) ≤ rank (slice_index_or copies m d)
  fits_last up = let back = from_back 0 (take m copies) (slice_index_or copies m d ∷ []) (subst (AreFrom 0) last_of up) in back.0

  count_last : (p : HeldCopy → Bool) → count_by p (take n copies)
      ≡ count_by p (take m copies) + (if p (slice_index_or copies m d) then 1 else 0)
  count_last p = rw size (sum_by_more (λ c. if p c then 1 else 0) copies m d inside)

from-take : (n : ℕ) (copies : List HeldCopy) → AreFrom 0 copies → AreFrom 0 (take n copies)
from-take n copies up = from_front 0 (take n copies) (drop n copies) (subst (AreFrom 0) (sym (take-append-drop n copies)) up)

-- what stands from a place on, where it was set
drop-set : (copies : List HeldCopy) (at : ℕ) (one : HeldCopy) → at < length copies → drop at (slice_set copies at one) ≡ one ∷ drop (at + 1) copies
drop-set copies at one lt =
    drop_more (slice_set copies at one) at one (omega (arith, lt, length-set copies at one))
    ∙ (λ i. get_or-set_same copies at one one lt i ∷ drop-set-lt (at + 1) copies at one (omega arith) i)

-- one more copy is placed, so that m of the one list and l of the other still wait
placed : (kept late copies : List HeldCopy) (i j m l : ℕ) (x : HeldCopy) → IsMerging kept late i j copies → i + j
    ≡ m + l + 1 → l ≤ j
    → ((p : HeldCopy → Bool) → count_by p (take i copies) + count_by p (take j late) ≡
    count_by p (take m copies) + count_by p (take l late) + (if p x then 1 else 0))
    → AreFrom 0 (take m copies) → above 0 (take m copies) ≤ rank x → above 0 (take l late) ≤ rank x →
    AreFrom (rank x + 1) (drop (i + j) copies)
    → IsMerging kept late m l (slice_set copies (i + j - 1) x)
placed kept late copies i j m l x is left fewer counts waits le le_late after = record {
  size = length-set copies (i + j - 1) x ∙ is.size;
  inside = omega (arith, is.inside, length-set copies (i + j - 1) x);
  within = omega (arith, is.within);
  same = λ p. omega (
    arith,
    is.same p,
    counts p,
    ap (count_by p) front,
    ap (count_by p) back,
    sum_by-cons (λ c. if p c then 1 else 0) x (drop (i + j) copies),
  );
  waits = rw front waits;
  behind = rw (front, back) (le, after);
  behind_late = rw back (le_late, after);
}
  where
    front : take m (slice_set copies (i + j - 1) x) ≡ take m copies
    front = take-set-le m copies (i + j - 1) x (omega arith)

    back : drop (m + l) (slice_set copies (i + j - 1) x) ≡ x ∷ drop (i + j) copies
    back =
        let at : m + l ≡ i + j - 1 = omega arith in
        let next : i + j - 1 + 1 ≡ i + j = omega arith in
        ap (λ k. drop k (slice_set copies (i + j - 1) x)) at ∙ drop-set copies (i + j - 1) x (omega (arith, is.inside))
        ∙ ap (λ k. x ∷ drop k copies) next

pub place_kept : (kept late copies : List HeldCopy) (i j : ℕ) (d : HeldCopy) → 0 < i → 0 < j →
    IsMerging kept late i j copies
    → rank (slice_index_or late (j - 1) d) < rank (slice_index_or copies (i - 1) d)
    → IsMerging kept late (i - 1) j (slice_set copies (i + j - 1) (slice_index_or copies (i - 1) d))
place_kept kept late copies i j d some_i some_j is lt =
    let i_is : i ≡ i - 1 + 1 = omega arith in
    let here : i - 1 < length copies = omega (arith, is.inside) in
    placed kept late copies i j (i - 1) j (slice_index_or copies (i - 1) d) is (omega arith) (omega arith)
    (λ p. omega (arith, count_last copies i (i - 1) d i_is here p))
    (front_last copies i (i - 1) d i_is here is.waits) (fits_last copies i (i - 1) d i_is here is.waits)
    (omega (arith, lt, above-last late j (j - 1) d (omega arith) (omega (arith, is.within))))
    (subst (λ k. AreFrom k (drop (i + j) copies)) (above-last copies i (i - 1) d i_is here) is.behind)

pub place_late : (kept late copies : List HeldCopy) (i j : ℕ) (d : HeldCopy) → 0 < j → AreFrom 0 late →
    IsMerging kept late i j copies
    → (0 < i → rank (slice_index_or copies (i - 1) d) < rank (slice_index_or late (j - 1) d))
    → IsMerging kept late i (j - 1) (slice_set copies (i + j - 1) (slice_index_or late (j - 1) d))
place_late kept late copies i j d some_j order is lt =
    let j_is : j ≡ j - 1 + 1 = omega arith in
    let here : j - 1 < length late = omega (arith, is.within) in
    placed kept late copies i j i (j - 1) (slice_index_or late (j - 1) d) is (omega arith) (omega arith)
    (λ p. omega (arith, count_last late j (j - 1) d j_is here p)) is.waits fits
    (fits_last late j (j - 1) d j_is here (from-take j late order))
    (subst (λ k. AreFrom k (drop (i + j) copies)) (above-last late j (j - 1) d j_is here) is.behind_late)
  where
    fits : above 0 (take i copies) ≤ rank (slice_index_or late (j - 1) d)
    fits = elim (cases_lt 0 i) [
      | inl some ↦ omega (arith, lt some, above-last copies i (i - 1) d (omega arith) (omega (arith, is.inside)))
      | inr none ↦ let i_is : i ≡ 0 = omega arith in rw i_is (omega arith)
    ]

-- the last that waits of the one list isn't that of the other
pub last_apart : (kept late copies : List HeldCopy) (i j : ℕ) (d : HeldCopy) → 0 < i → 0 < j → IsOnce (kept ++ late) →
    IsMerging kept late i j copies
    → is_copy_of (slice_index_or late (j - 1) d).node (slice_index_or late (j - 1) d).number
    (slice_index_or copies (i - 1) d) ≡ false
last_apart kept late copies i j d some_i some_j once is = false_from_ne_true (p x) (λ e.
    omega (
      arith,
      is.same p,
      once y.node y.number,
      count-append p kept late,
      count_last copies i (i - 1) d (omega arith) (omega (arith, is.inside)) p,
      count_last late j (j - 1) d (omega arith) (omega (arith, is.within)) p,
      ap {B = ℕ} (λ (b : Bool). if b then 1 else 0) e,
      ap {B = ℕ} (λ (b : Bool). if b then 1 else 0) (named_self y),
    ))
  where
    x : HeldCopy
    x = slice_index_or copies (i - 1) d

    y : HeldCopy
    y = slice_index_or late (j - 1) d

    p : HeldCopy → Bool
    p = is_copy_of y.node y.number

-- ---- the whole

pub all_wait : (kept late : List HeldCopy) → AreFrom 0 kept → IsMerging kept late (length kept) (length late) (kept ++ late)
all_wait kept late order = record {
  size = length-append kept late;
  inside = omega (arith, length-append kept late);
  within = omega arith;
  same = λ p. omega (arith, ap (count_by p) front, ap (count_by p) (take_all (length late) late (omega arith)), ap (count_by p) none);
  waits = subst (AreFrom 0) (sym front) order;
  behind = subst (AreFrom (above 0 (take (length kept) (kept ++ late)))) (sym none) tt;
  behind_late = subst (AreFrom (above 0 (take (length late) late))) (sym none) tt;
}
  where
    front : take (length kept) (kept ++ late) ≡ kept
    front = take_at kept late (length kept) refl

    none : drop (length kept + length late) (kept ++ late) ≡ []
    none = drop_all (length kept + length late) (kept ++ late) (omega (arith, length-append kept late))

from_both : (low : ℕ) (xs ys : List HeldCopy) → AreFrom low xs → AreFrom (above low xs) ys → AreFrom low (xs ++ ys)
from_both low [] ys up more = more
from_both low (x ∷ xs) ys up more = (up.0, from_both (rank x + 1) xs ys up.1 more)

pub merged : (kept late copies : List HeldCopy) (i j : ℕ) → j ≡ 0 → IsMerging kept late i j copies →
    AreFrom 0 copies × HaveSame (kept ++ late) copies
merged kept late copies i j none is =
    let here : i + j ≡ i = omega arith in (
      subst (AreFrom 0) (take-append-drop i copies) (from_both 0 (take i copies) (drop i copies) is.waits
          (rw here at is.behind)),
      λ p. omega (
        arith,
        is.same p,
        ap (λ k. count_by p (take k late)) none,
        ap (λ k. count_by p (drop k copies)) here,
        count-append p (take i copies) (drop i copies),
        ap (count_by p) (take-append-drop i copies),
        count-append p kept late,
      ),
    )
