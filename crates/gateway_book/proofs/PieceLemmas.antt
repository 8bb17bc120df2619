-- How many records of a history's items are counted, piece by piece.
use Rattle.std.proofs.Common.{◌≡◌, ℕ, ◌+◌, ◌-◌, ◌<◌, ◌≤◌, ◌^◌, min, List, ◌++◌, length, take, drop, cond, ap, ◌∙◌, arith, length-drop, rules}
use Rattle.std.proofs.Math.Seq.{take-add}
use Rattle.gateway_book.proofs.Names.{Book, Ghosts, is_part, IsUnchanged, Item, length-take, part_count, take_all}
use Rattle.std.proofs.lemmas.List.Sums.{count_by-le-length, sum_by-append}

counts_both : (xs ys : List Item) → part_count (xs ++ ys) ≡ part_count xs + part_count ys
counts_both xs ys = sum_by-append (λ (item : Item). cond (is_part item) 1 0) xs ys

-- there are no more records than items
few_parts : (xs : List Item) → part_count xs ≤ length xs
few_parts xs = count_by-le-length is_part xs

-- with the next piece
pub counted_on : (xs items : List Item) (from n : ℕ) → items ≡ take n (drop from xs)
    → part_count (take from xs) + part_count items ≡ part_count (take (from + n) xs)
counted_on xs items from n is = grind (arith, counts_both, take-add)

-- with a last piece, which is shorter
pub counted_all : (xs items : List Item) (from n : ℕ) → items ≡ take n (drop from xs) → length items < n
    → part_count (take from xs) + part_count items ≡ part_count xs
counted_all xs items from n is short =
    let long : length items ≡ min n (length (drop from xs)) = ap (λ (l : List Item). length l) is ∙ length-take n (drop from xs) in
    let rest = length-drop from xs in
    counted_on xs items from n is ∙ ap (λ (l : List Item). part_count l) (take_all (from + n) xs (omega (arith, long, short, rest)))

-- a whole piece was there to be taken
pub goes_on_within : (xs items : List Item) (from n : ℕ) → items ≡ take n (drop from xs) → n ≤ length items → from ≤ length xs
    → from + n ≤ length xs
goes_on_within xs items from n is long within = grind (arith, length-take, length-drop)

-- a sum that isn't too large is exact
exact_sum : (xs items : List Item) (records n sum from : ℕ) → sum ≡ min (records + n) (2 ^ 64 - 1) → n ≡ part_count items
    → items ≡ take 4096 (drop from xs) → length xs < 2 ^ 32 → records ≡ part_count (take from xs)
    → sum ≡ part_count (take from xs) + part_count items
exact_sum xs items records n sum from is_sum is_n is few counted =
    let on = counted_on xs items from 4096 is in
    let le = few_parts (take (from + 4096) xs) in
    let long = length-take (from + 4096) xs in
    omega (arith, is_sum, is_n, on, le, long, few, counted)

pub counted_more : (xs items : List Item) (records n sum from : ℕ) → sum ≡ min (records + n) (2 ^ 64 - 1) → n ≡ part_count items
    → items ≡ take 4096 (drop from xs) → length xs < 2 ^ 32 → records ≡ part_count (take from xs) → sum ≡ part_count (take (from + 4096) xs)
counted_more xs items records n sum from is_sum is_n is few counted =
    exact_sum xs items records n sum from is_sum is_n is few counted ∙ counted_on xs items from 4096 is

pub counted_last : (xs items : List Item) (records n sum from : ℕ) → sum ≡ min (records + n) (2 ^ 64 - 1) → n ≡ part_count items
    → items ≡ take 4096 (drop from xs) → length xs < 2 ^ 32 → records ≡ part_count (take from xs) → length items < 4096 → sum ≡ part_count xs
counted_last xs items records n sum from is_sum is_n is few counted short =
    exact_sum xs items records n sum from is_sum is_n is few counted ∙ counted_all xs items from 4096 is short

module _ {A : Type 0} {tells : Ghosts A} where
  pub unchanged_then : (a b c : Book A tells) → IsUnchanged a b → IsUnchanged b c → IsUnchanged a c
  unchanged_then a b c first second = search rules
