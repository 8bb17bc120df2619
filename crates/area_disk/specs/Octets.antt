-- What a write over octets leaves at each place.
use Rattle.std.proofs.Common.{◌≡◌, ◌⊎◌, inl, inr, ℕ, ◌+◌, ◌-◌, ◌<◌, ◌≤◌, List, ◌++◌, length, get_or, take, drop, refl, sym, ◌∙◌, ap, arith, length-append, length-drop}
use Rattle.std.proofs.lemmas.List.{ext_get_or, length-replicate, length-take-le, take-append-le, get_or_append_left, get_or-append_right, get_or-take, get_or-drop, take_at, drop_at}
use Rattle.std.proofs.lemmas.Bool.{cases_lt}
use Rattle.area_disk.specs.Disk.{overwritten, zeros, Torn}

pub length_zeros : (n : ℕ) → length (zeros n) ≡ n
unfolding zeros
length_zeros n = length-replicate n 0

module _ (xs : List ℕ) (at : ℕ) (ys : List ℕ) (fits : at + length ys ≤ length xs) where
  front : length (take at xs) ≡ at
  front = length-take-le at xs (omega arith)

  pub length-overwritten : length (overwritten xs at ys) ≡ length xs
  length-overwritten = omega (arith, front, length-append (take at xs ++ ys) (drop (at + length ys) xs), length-append (take at xs) ys, length-drop (at + length ys) xs)

  pub get_or-overwritten_before : (k : ℕ) → k < at → get_or (overwritten xs at ys) k 0 ≡ get_or xs k 0
  get_or-overwritten_before k below =
      get_or_append_left (take at xs ++ ys) (drop (at + length ys) xs) 0 k (omega (arith, front, below, length-append (take at xs) ys))
      ∙ get_or_append_left (take at xs) ys 0 k (omega (arith, front, below))
      ∙ get_or-take at xs k 0 below

  pub get_or-overwritten_at : (k : ℕ) → at ≤ k → k < at + length ys → get_or (overwritten xs at ys) k 0 ≡ get_or ys (k - at) 0
  get_or-overwritten_at k from below =
      get_or_append_left (take at xs ++ ys) (drop (at + length ys) xs) 0 k (omega (arith, front, below, length-append (take at xs) ys))
      ∙ get_or-append_right (take at xs) ys at k 0 front from

  pub get_or-overwritten_after : (k : ℕ) → at + length ys ≤ k → get_or (overwritten xs at ys) k 0 ≡ get_or xs k 0
  get_or-overwritten_after k above =
      get_or-append_right (take at xs ++ ys) (drop (at + length ys) xs) (at + length ys) k 0 (omega (arith, front, length-append (take at xs) ys)) above
      ∙ get_or-drop (at + length ys) xs (k - (at + length ys)) 0
      ∙ ap (λ n. get_or xs n 0) (let e : at + length ys + (k - (at + length ys)) ≡ k = omega (arith, above) in e)

  pub get_or-overwritten_beside : (k : ℕ) → (k < at) ⊎ (at + length ys ≤ k) → get_or (overwritten xs at ys) k 0 ≡ get_or xs k 0
  get_or-overwritten_beside k (inl before) = get_or-overwritten_before k before
  get_or-overwritten_beside k (inr after) = get_or-overwritten_after k after

  -- a crash may leave the write done
  pub torn_overwritten : Torn at (length ys) xs (overwritten xs at ys)
  torn_overwritten = record {
    before = take_front;
    after = drop_at (take at xs ++ ys) (drop (at + length ys) xs) (at + length ys) (omega (arith, front, length-append (take at xs) ys));
    size = length-overwritten;
  }
    where
      take_front : take at (overwritten xs at ys) ≡ take at xs
      take_front =
          take-append-le at (take at xs ++ ys) (drop (at + length ys) xs) (omega (arith, front, length-append (take at xs) ys)) ∙ take_at (take at xs) ys at front

-- a crash may leave a write undone
pub torn_same : (at n : ℕ) (octets : List ℕ) → Torn at n octets octets
torn_same at n octets = record { before = refl; after = refl; size = refl }

-- a place is before a range, in it or after it
pub data Side (at n k : ℕ) : Type 0 where
  before : k < at → Side at n k
  inside : at ≤ k → k < at + n → Side at n k
  after : at + n ≤ k → Side at n k

pub side_of : (at n k : ℕ) → Side at n k
side_of at n k = elim (cases_lt k at) [
  | inl below ↦ before below
  | inr from ↦ elim (cases_lt k (at + n)) [ inl within ↦ inside from within | inr above ↦ after above ]
]

-- octets that are xs beside a range and ys in it are xs overwritten there
pub overwritten_is : (xs : List ℕ) (at : ℕ) (ys zs : List ℕ) → at + length ys ≤ length xs → length zs ≡ length xs
    → ((k : ℕ) → (k < at) ⊎ (at + length ys ≤ k) → get_or zs k 0 ≡ get_or xs k 0)
    → ((k : ℕ) → at ≤ k → k < at + length ys → get_or zs k 0 ≡ get_or ys (k - at) 0) → overwritten xs at ys ≡ zs
overwritten_is xs at ys zs fits size beside within =
    ext_get_or 0 (overwritten xs at ys) zs (length-overwritten xs at ys fits ∙ sym size) (λ k below. at_each k)
  where
    at_each : (k : ℕ) → get_or (overwritten xs at ys) k 0 ≡ get_or zs k 0
    at_each k = elim (side_of at (length ys) k) [
      | before b ↦ get_or-overwritten_before xs at ys fits k b ∙ sym (beside k (inl b))
      | inside f b ↦ get_or-overwritten_at xs at ys fits k f b ∙ sym (within k f b)
      | after a ↦ get_or-overwritten_after xs at ys fits k a ∙ sym (beside k (inr a))
    ]
