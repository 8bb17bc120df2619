-- What stays outside some stretches, step by step.
use Rattle.std.proofs.Common.{◌≡◌, ◌⊎◌, inl, inr, ⊎_elim, ℕ, suc, ◌+◌, ◌-◌, ◌<◌, ◌≤◌, List, [], ◌∷◌, ◌++◌, length, get_or, take, drop, replicate, refl, sym, ◌∙◌, ap, subst, arith, length-append, length-drop}
use Rattle.std.proofs.lemmas.List.{ext_get_or, length-take-le, length-replicate, get_or_append_left, get_or-take, get_or-drop, get_or_push}
use Rattle.std.proofs.lemmas.Bool.{cases_lt}
use Rattle.area_disk.specs.Disk.{overwritten, Torn, Follows}
use Rattle.area_disk.specs.Octets.{length-overwritten, get_or-overwritten_before, get_or-overwritten_at, get_or-overwritten_after, get_or-overwritten_beside, torn_overwritten, overwritten_is, side_of, before, inside, after}
use Rattle.area_disk.specs.Stretch.{IsBeside, IsOutside, SameOutside, EachFits, filled}
use Rattle.area_disk.specs.declared.stretch.Stretch.{Stretch}

pub same_refl : (stretches : List Stretch) (xs : List ℕ) → SameOutside stretches xs xs
same_refl stretches xs = record { size = refl; same = λ k out. refl }

-- outside no stretch is everywhere
pub same_everywhere : (xs ys : List ℕ) → SameOutside [] xs ys → ys ≡ xs
same_everywhere xs ys same = ext_get_or 0 ys xs same.size (λ k below. same.same k tt)

pub same_trans : (stretches : List Stretch) (xs ys zs : List ℕ) → SameOutside stretches xs ys → SameOutside stretches xs zs → SameOutside stretches ys zs
same_trans stretches xs ys zs one two = record { size = two.size ∙ sym one.size; same = λ k out. two.same k out ∙ sym (one.same k out) }

pub IsOutside-push : (stretches : List Stretch) (s : Stretch) (k : ℕ) → IsOutside stretches k → IsBeside s k → IsOutside (stretches ++ s ∷ []) k
IsOutside-push [] s k out beside = (beside, tt)
IsOutside-push (x ∷ stretches) s k out beside = (out.0, IsOutside-push stretches s k out.1 beside)

pub outside_front : (stretches : List Stretch) (s : Stretch) (k : ℕ) → IsOutside (stretches ++ s ∷ []) k → IsOutside stretches k
outside_front [] s k out = tt
outside_front (x ∷ stretches) s k out = (out.0, outside_front stretches s k out.1)

pub outside_last : (stretches : List Stretch) (s : Stretch) (k : ℕ) → IsOutside (stretches ++ s ∷ []) k → IsBeside s k
outside_last [] s k out = out.0
outside_last (x ∷ stretches) s k out = outside_last stretches s k out.1

pub same_more : (stretches : List Stretch) (s : Stretch) (xs ys : List ℕ) → SameOutside stretches xs ys → SameOutside (stretches ++ s ∷ []) xs ys
same_more stretches s xs ys same = record { size = same.size; same = λ k out. same.same k (outside_front stretches s k out) }

pub EachFits-push : (n : ℕ) (stretches : List Stretch) (s : Stretch) → EachFits n stretches → s.at + s.count ≤ n → EachFits n (stretches ++ s ∷ [])
EachFits-push n stretches s fit last k d below = elim (cases_lt k (length stretches)) [
  | inl front ↦
      subst (λ (t : Stretch). t.at + t.count ≤ n) (sym (get_or_append_left stretches (s ∷ []) d k front)) (fit k d front)
  | inr from ↦
      subst (λ (t : Stretch). t.at + t.count ≤ n) (sym (get_or_push stretches s d k (omega (arith, from, below, length-append stretches (s ∷ []))))) last
]

pub EachFits-tail : (n : ℕ) (s : Stretch) (stretches : List Stretch) → EachFits n (s ∷ stretches) → EachFits n stretches
EachFits-tail n s stretches fit k d below = fit (suc k) d (omega (arith, below))

torn_sym : (at n : ℕ) (xs ys : List ℕ) → Torn at n xs ys → Torn at n ys xs
torn_sym at n xs ys torn = record { before = sym torn.before; after = sym torn.after; size = sym torn.size }

-- the octets of a range
abbrev part : ℕ → ℕ → List ℕ → List ℕ
part at n xs = take n (drop at xs)

length-part : (at n : ℕ) (xs : List ℕ) → at + n ≤ length xs → length (part at n xs) ≡ n
length-part at n xs fits = length-take-le n (drop at xs) (omega (arith, length-drop at xs))

get_or-part : (at n : ℕ) (xs : List ℕ) (k : ℕ) → at ≤ k → k < at + n → get_or (part at n xs) (k - at) 0 ≡ get_or xs k 0
get_or-part at n xs k from below =
    get_or-take n (drop at xs) (k - at) 0 (omega (arith, from, below)) ∙ get_or-drop at xs (k - at) 0
    ∙ ap (λ i. get_or xs i 0) (let e : at + (k - at) ≡ k = omega (arith, from) in e)

module _ (stretches : List Stretch) (xs : List ℕ) (at : ℕ) (ys : List ℕ) (fits : at + length ys ≤ length xs) where
  -- a write keeps what stands outside its range
  pub same_written : SameOutside (stretches ++ record { at = at; count = length ys } ∷ []) xs (overwritten xs at ys)
  same_written = record {
    size = length-overwritten xs at ys fits;
    same = λ k out. get_or-overwritten_beside xs at ys fits k (outside_last stretches (record { at = at; count = length ys }) k out);
  }

  -- each outcome after a write is an outcome before it, torn in the range
  pub follows_write : Follows (Torn at (length ys)) (SameOutside stretches xs) (SameOutside (stretches ++ record { at = at; count = length ys } ∷ []) (overwritten xs at ys))
  follows_write c left = (overwritten c at (part at (length ys) xs), same, torn)
    where
      size : length c ≡ length xs
      size = left.size ∙ length-overwritten xs at ys fits

      held_size : length (part at (length ys) xs) ≡ length ys
      held_size = length-part at (length ys) xs fits

      held_fits : at + length (part at (length ys) xs) ≤ length c
      held_fits = omega (arith, fits, size, held_size)

      torn : Torn at (length ys) (overwritten c at (part at (length ys) xs)) c
      torn = subst (λ n. Torn at n (overwritten c at (part at (length ys) xs)) c) held_size (torn_sym at (length (part at (length ys) xs)) c (overwritten c at (part at (length ys) xs)) (torn_overwritten c at (part at (length ys) xs) held_fits))

      at_each : (k : ℕ) → IsOutside stretches k → get_or (overwritten c at (part at (length ys) xs)) k 0 ≡ get_or xs k 0
      at_each k out = elim (side_of at (length ys) k) [
        | before b ↦
            get_or-overwritten_before c at (part at (length ys) xs) held_fits k b ∙ left.same k (IsOutside-push stretches (record { at = at; count = length ys }) k out (inl b)) ∙ get_or-overwritten_before xs at ys fits k b
        | inside f b ↦
            get_or-overwritten_at c at (part at (length ys) xs) held_fits k f (omega (arith, b, held_size)) ∙ get_or-part at (length ys) xs k f b
        | after a ↦
            get_or-overwritten_after c at (part at (length ys) xs) held_fits k (omega (arith, a, held_size)) ∙ left.same k (IsOutside-push stretches (record { at = at; count = length ys }) k out (inr a)) ∙ get_or-overwritten_after xs at ys fits k a
      ]

      same : SameOutside stretches xs (overwritten c at (part at (length ys) xs))
      same = record { size = length-overwritten c at (part at (length ys) xs) held_fits ∙ size; same = at_each }

-- all that changed, written as one stretch
pub overwritten_hull : (stretches : List Stretch) (hull : Stretch) (xs ys : List ℕ) → hull.at + hull.count ≤ length xs
    → ((k : ℕ) → IsBeside hull k → IsOutside stretches k) → SameOutside stretches xs ys
    → overwritten xs hull.at (take hull.count (drop hull.at ys)) ≡ ys
overwritten_hull stretches hull xs ys fits covers same =
    overwritten_is xs hull.at (part hull.at hull.count ys) ys (omega (arith, fits, size)) same.size
    (λ k beside. same.same k (covers k (⊎_elim (λ b. inl b) (λ a. inr (omega (arith, a, size))) beside)))
    (λ k from below. sym (get_or-part hull.at hull.count ys k from (omega (arith, below, size))))
  where
    size : length (part hull.at hull.count ys) ≡ hull.count
    size = length-part hull.at hull.count ys (omega (arith, fits, same.size))

-- one stretch made the same
pub same_copied : (stretches : List Stretch) (s : Stretch) (from to : List ℕ) → s.at + s.count ≤ length from → SameOutside (s ∷ stretches) from to
    → SameOutside stretches from (overwritten to s.at (take s.count (drop s.at from)))
same_copied stretches s from to fits same = record { size = length-overwritten to s.at (part s.at s.count from) to_fits ∙ same.size; same = at_each }
  where
    size : length (part s.at s.count from) ≡ s.count
    size = length-part s.at s.count from fits

    to_fits : s.at + length (part s.at s.count from) ≤ length to
    to_fits = omega (arith, size, fits, same.size)

    at_each : (k : ℕ) → IsOutside stretches k → get_or (overwritten to s.at (part s.at s.count from)) k 0 ≡ get_or from k 0
    at_each k out = elim (side_of s.at s.count k) [
      | before b ↦ get_or-overwritten_before to s.at (part s.at s.count from) to_fits k b ∙ same.same k (inl b, out)
      | inside f b ↦
          get_or-overwritten_at to s.at (part s.at s.count from) to_fits k f (omega (arith, b, size)) ∙ get_or-part s.at s.count from k f b
      | after a ↦
          get_or-overwritten_after to s.at (part s.at s.count from) to_fits k (omega (arith, a, size)) ∙ same.same k (inr a, out)
    ]

fill_fits : (n v : ℕ) (s : Stretch) → s.at + s.count ≤ n → s.at + length (replicate s.count v) ≤ n
fill_fits n v s fits = omega (arith, fits, length-replicate s.count v)

pub length-filled : (v : ℕ) (stretches : List Stretch) (xs : List ℕ) → EachFits (length xs) stretches → length (filled v stretches xs) ≡ length xs
length-filled v [] xs fit = refl
length-filled v (s ∷ stretches) xs fit =
    length-filled v stretches (overwritten xs s.at (replicate s.count v)) (subst (λ n. EachFits n stretches) (sym first) (EachFits-tail (length xs) s stretches fit)) ∙ first
  where
    first : length (overwritten xs s.at (replicate s.count v)) ≡ length xs
    first = length-overwritten xs s.at (replicate s.count v) (fill_fits (length xs) v s (fit 0 s (omega arith)))

-- filling changes the stretches alone
pub same_filled : (v : ℕ) (stretches : List Stretch) (xs : List ℕ) → EachFits (length xs) stretches → SameOutside stretches xs (filled v stretches xs)
same_filled v [] xs fit = same_refl [] xs
same_filled v (s ∷ stretches) xs fit =
    let fits : s.at + length (replicate s.count v) ≤ length xs = fill_fits (length xs) v s (fit 0 s (omega arith)) in
    let first : length (overwritten xs s.at (replicate s.count v)) ≡ length xs = length-overwritten xs s.at (replicate s.count v) fits in
    let rest = same_filled v stretches (overwritten xs s.at (replicate s.count v)) (subst (λ n. EachFits n stretches) (sym first) (EachFits-tail (length xs) s stretches fit)) in
    record {
      size = rest.size ∙ first;
      same = λ k out. rest.same k out.1 ∙ get_or-overwritten_beside xs s.at (replicate s.count v) fits k (beside k out.0);
    }
  where
    beside : (k : ℕ) → IsBeside s k → (k < s.at) ⊎ (s.at + length (replicate s.count v) ≤ k)
    beside k (inl b) = inl b
    beside k (inr a) = inr (omega (arith, a, length-replicate s.count v))

pub filled-push : (v : ℕ) (stretches : List Stretch) (s : Stretch) (xs : List ℕ) → filled v (stretches ++ s ∷ []) xs ≡ overwritten (filled v stretches xs) s.at (replicate s.count v)
filled-push v [] s xs = refl
filled-push v (x ∷ stretches) s xs = filled-push v stretches s (overwritten xs x.at (replicate x.count v))

-- a place is filled alike, whatever stands elsewhere
overwritten_alike : (xs ys : List ℕ) (at : ℕ) (zs : List ℕ) (k : ℕ) → at + length zs ≤ length xs → length xs ≡ length ys → get_or xs k 0 ≡ get_or ys k 0
    → get_or (overwritten xs at zs) k 0 ≡ get_or (overwritten ys at zs) k 0
overwritten_alike xs ys at zs k fits size alike = elim (side_of at (length zs) k) [
  | before b ↦ get_or-overwritten_before xs at zs fits k b ∙ alike ∙ sym (get_or-overwritten_before ys at zs ys_fit k b)
  | inside f b ↦ get_or-overwritten_at xs at zs fits k f b ∙ sym (get_or-overwritten_at ys at zs ys_fit k f b)
  | after a ↦ get_or-overwritten_after xs at zs fits k a ∙ alike ∙ sym (get_or-overwritten_after ys at zs ys_fit k a)
]
  where
    ys_fit : at + length zs ≤ length ys
    ys_fit = omega (arith, fits, size)

filled_alike : (v : ℕ) (stretches : List Stretch) (xs ys : List ℕ) (k : ℕ) → EachFits (length xs) stretches → length xs ≡ length ys → get_or xs k 0 ≡ get_or ys k 0
    → get_or (filled v stretches xs) k 0 ≡ get_or (filled v stretches ys) k 0
filled_alike v [] xs ys k fit size alike = alike
filled_alike v (s ∷ stretches) xs ys k fit size alike =
    filled_alike v stretches (overwritten xs s.at (replicate s.count v)) (overwritten ys s.at (replicate s.count v)) k
    (subst (λ n. EachFits n stretches) (sym one) (EachFits-tail (length xs) s stretches fit)) (one ∙ size ∙ sym two) (overwritten_alike xs ys s.at (replicate s.count v) k fits size alike)
  where
    fits : s.at + length (replicate s.count v) ≤ length xs
    fits = fill_fits (length xs) v s (fit 0 s (omega arith))

    one : length (overwritten xs s.at (replicate s.count v)) ≡ length xs
    one = length-overwritten xs s.at (replicate s.count v) fits

    two : length (overwritten ys s.at (replicate s.count v)) ≡ length ys
    two = length-overwritten ys s.at (replicate s.count v) (omega (arith, fits, size))

-- a write and then filling is filling, its range included
pub filled_written : (v : ℕ) (stretches : List Stretch) (xs : List ℕ) (at : ℕ) (ys : List ℕ) → at + length ys ≤ length xs → EachFits (length xs) stretches
    → filled v (stretches ++ record { at = at; count = length ys } ∷ []) (overwritten xs at ys) ≡ overwritten (filled v stretches xs) at (replicate (length ys) v)
filled_written v stretches xs at ys fits fit =
    filled-push v stretches (record { at = at; count = length ys }) (overwritten xs at ys)
    ∙ sym (overwritten_is (filled v stretches xs) at (replicate (length ys) v) (overwritten (filled v stretches (overwritten xs at ys)) at (replicate (length ys) v)) fits_filled
    (length-overwritten (filled v stretches (overwritten xs at ys)) at (replicate (length ys) v) fits_both ∙ both ∙ sym plain)
    (λ k beside. get_or-overwritten_beside (filled v stretches (overwritten xs at ys)) at (replicate (length ys) v) fits_both k beside
    ∙ filled_alike v stretches (overwritten xs at ys) xs k fit_written (length-overwritten xs at ys fits) (get_or-overwritten_beside xs at ys fits k (narrow k beside)))
    (λ k from below. get_or-overwritten_at (filled v stretches (overwritten xs at ys)) at (replicate (length ys) v) fits_both k from below))
  where
    n_is : length (replicate (length ys) v) ≡ length ys
    n_is = length-replicate (length ys) v

    fit_written : EachFits (length (overwritten xs at ys)) stretches
    fit_written = subst (λ n. EachFits n stretches) (sym (length-overwritten xs at ys fits)) fit

    plain : length (filled v stretches xs) ≡ length xs
    plain = length-filled v stretches xs fit

    both : length (filled v stretches (overwritten xs at ys)) ≡ length xs
    both = length-filled v stretches (overwritten xs at ys) fit_written ∙ length-overwritten xs at ys fits

    fits_filled : at + length (replicate (length ys) v) ≤ length (filled v stretches xs)
    fits_filled = omega (arith, n_is, plain, fits)

    fits_both : at + length (replicate (length ys) v) ≤ length (filled v stretches (overwritten xs at ys))
    fits_both = omega (arith, n_is, both, fits)

    narrow : (k : ℕ) → (k < at) ⊎ (at + length (replicate (length ys) v) ≤ k) → (k < at) ⊎ (at + length ys ≤ k)
    narrow k (inl b) = inl b
    narrow k (inr a) = inr (omega (arith, a, n_is))
