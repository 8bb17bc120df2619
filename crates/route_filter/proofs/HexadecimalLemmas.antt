-- Lemmas on octets in hexadecimal: how they are read from pairs of digits, and from words.
use Rattle.std.proofs.Common.{◌≡◌, ◌≢◌, ℕ, suc, ◌+◌, ◌*◌, ◌%◌, ◌<◌, ◌≤◌, true, false, List, [], ◌∷◌, ◌++◌, length, take, drop, drop-cons, get_or, slice_index, slice_set, map, Option, Some, None, is_some, unwrap_or, option_map, option_and_then, Result, Ok, Err, refl, ap, sym, ◌∙◌, arith, append-nil, append_assoc}
use Rattle.std.specs.Borrow.{Bor}
use Rattle.std.specs.Result.{result_ok}
use Rattle.hex.proofs.HexLemmas.{decode_of-even}
use Rattle.hex.proofs.Pairs.{decode_done, decode_err, decode_step, prepend}
use Rattle.hex.specs.Hex.{decode_pairs, hex_digit_value, pair_value, ◌>>=◌}
use Rattle.hex.specs.declared.error.FromHexError.{FromHexError}
use Rattle.route_filter.specs.Words.{decoded, octets_in, octets_of}

-- Digits.

is_digit : (o : Option ℕ) (n : ℕ) → n ≡ unwrap_or o 16 → n < 16 → o ≡ Some n
is_digit o n e h = grind arith

pub both_digits : (high low a b place : ℕ) → a ≡ unwrap_or (hex_digit_value high) 16 →
    b ≡ unwrap_or (hex_digit_value low) 16 → a < 16 → b < 16 → Some (16 * a + b) ≡ result_ok (pair_value high low place)
both_digits high low a b place e f h k = search (arith, is_digit)

no_digit : (c : ℕ) → 16 ≤ unwrap_or (hex_digit_value c) 16 → hex_digit_value c ≡ None
no_digit c h = grind (arith, h)

pub no_high : (high low a place : ℕ) → a ≡ unwrap_or (hex_digit_value high) 16 → 16 ≤ a →
    None ≡ result_ok (pair_value high low place)
no_high high low a place e h = search (arith, no_digit)

refused_second : (r : Result ℕ FromHexError) (e : FromHexError) → result_ok (r >>= (λ h. Err e >>= (λ l. Ok (h * 16 + l)))) ≡ None
refused_second r e = grind arith

pub no_low : (high low b place : ℕ) → b ≡ unwrap_or (hex_digit_value low) 16 → 16 ≤ b →
    None ≡ result_ok (pair_value high low place)
no_low high low b place e h = search (arith, no_digit, refused_second)

-- Pairs.

-- the octets of so many pairs are written, and those of the rest would follow them
abbrev pub IsSpelt : List ℕ → List ℕ → ℕ → Type 0
IsSpelt digits octets k = decode_pairs 0 digits ≡ prepend (take k octets) (decode_pairs (2 * k) (drop (2 * k) digits))

is_ok : (r : Result ℕ FromHexError) (v : ℕ) → Some v ≡ result_ok r → r ≡ Ok v
is_ok r v e = grind arith

is_err : (r : Result ℕ FromHexError) → None ≡ result_ok r → (d : FromHexError) × (r ≡ Err d)
is_err r e = grind arith

pub spelt_more : (digits octets : List ℕ) (k v : ℕ) → length digits ≡ 2 * length octets → k < length octets →
    Some v ≡ result_ok (pair_value (slice_index digits (2 * k)) (slice_index digits (2 * k + 1)) (2 * k)) →
    IsSpelt digits octets k → IsSpelt digits (slice_set octets k v) (k + 1)
spelt_more digits octets k v twice within e so_far =
    decode_step digits octets k v (omega arith) within (is_ok _ v e) so_far

even_octets : (digits : List ℕ) (n : ℕ) → length digits ≡ 2 * n → octets_in digits ≡ decoded (decode_pairs 0 digits)
even_octets digits n twice = ap decoded (decode_of-even digits (omega arith))

pub spelt_not : (digits octets : List ℕ) (k : ℕ) → length digits ≡ 2 * length octets → k < length octets →
    None ≡ result_ok (pair_value (slice_index digits (2 * k)) (slice_index digits (2 * k + 1)) (2 * k)) →
    IsSpelt digits octets k → octets_in digits ≡ None
spelt_not digits octets k twice within e so_far = search (arith, is_err, even_octets, decode_err)

pub spelt_all : (digits octets : List ℕ) (k : ℕ) → length digits ≡ 2 * length octets → length octets ≤ k →
    IsSpelt digits octets k → octets_in digits ≡ Some octets
spelt_all digits octets k twice whole so_far = search (arith, even_octets, decode_done)

-- Words.

pub odd : (word : List ℕ) → length word % 2 ≢ 0 → None ≡ octets_in word
odd word h = let one : length word % 2 ≡ 1 = omega arith in rw one refl

joined_one : (octets : Option (List ℕ)) →
    octets ≡ option_and_then (λ found. option_and_then (λ rest. Some (found ++ rest)) (Some [])) octets
joined_one octets = grind (arith, append-nil)

pub one_word : (word : List ℕ) → octets_in word ≡ octets_of (word ∷ [])
one_word word = joined_one (octets_in word)

-- octets in front of those of the words that are left
abbrev pub after_octets : List ℕ → Option (List ℕ) → Option (List ℕ)
after_octets front more = option_map (λ octets. front ++ octets) more

in_front : (front octets : List ℕ) (more : Option (List ℕ)) →
    after_octets front (option_and_then (λ rest. Some (octets ++ rest)) more) ≡ after_octets (front ++ octets) more
in_front front octets None = refl
in_front front octets (Some rest) = ap Some (sym (append_assoc front octets rest))

first_octets : (front : List ℕ) (octets : Option (List ℕ)) (more : Option (List ℕ)) → is_some octets ≡ true →
    after_octets front (option_and_then (λ found. option_and_then (λ rest. Some (found ++ rest)) more) octets)
    ≡ after_octets (front ++ unwrap_or octets []) more
first_octets front None more e = cc
first_octets front (Some octets) more e = in_front front octets more

-- the first word is octets
step_octets : (front new word : List ℕ) (words : List (List ℕ)) → is_some (octets_in word) ≡ true →
    new ≡ front ++ unwrap_or (octets_in word) [] →
    after_octets new (octets_of words) ≡ after_octets front (octets_of (word ∷ words))
step_octets front new word words e grown = rw grown (sym (first_octets front (octets_in word) (octets_of words) e))

no_first : (octets : Option (List ℕ)) (more : Option (List ℕ)) → is_some octets ≡ false →
    option_and_then (λ found. option_and_then (λ rest. Some (found ++ rest)) more) octets ≡ None
no_first None more e = refl
no_first (Some octets) more e = cc

-- the first word is no octets
no_octets : (word : List ℕ) (words : List (List ℕ)) → is_some (octets_in word) ≡ false → octets_of (word ∷ words) ≡ None
no_octets word words e = no_first (octets_in word) (octets_of words) e

-- the words from a place on
abbrev pub from_place : List (Bor (List ℕ)) → ℕ → List (List ℕ)
from_place words i = map (λ word. word.now) (drop i words)

-- they begin with the one at that place
begin_with : (words : List (Bor (List ℕ))) (i : ℕ) (word : Bor (List ℕ)) → i < length words → word ≡ get_or words i word →
    from_place words i ≡ word.now ∷ from_place words (i + 1)
begin_with words i word h here =
    let next : i + 1 ≡ suc i = omega arith in
    rw next (
    ap (map (λ w. w.now)) (drop-cons words i word h)
    ∙ ap (λ (w : Bor (List ℕ)). w.now ∷ from_place words (suc i)) (sym here)
    )

pub octets_step : (words : List (Bor (List ℕ))) (i : ℕ) (word : Bor (List ℕ)) (front new : List ℕ) → i < length words →
    word ≡ get_or words i word → is_some (octets_in word.now) ≡ true →
    new ≡ front ++ unwrap_or (octets_in word.now) [] →
    after_octets new (octets_of (from_place words (i + 1))) ≡ after_octets front (octets_of (from_place words i))
octets_step words i word front new h here e grown =
    step_octets front new word.now (from_place words (i + 1)) e grown
    ∙ ap (λ ws. after_octets front (octets_of ws)) (sym (begin_with words i word h here))

pub octets_none : (words : List (Bor (List ℕ))) (i : ℕ) (word : Bor (List ℕ)) (front : List ℕ) → i < length words →
    word ≡ get_or words i word → is_some (octets_in word.now) ≡ false →
    after_octets front (octets_of (from_place words i)) ≡ None
octets_none words i word front h here e =
    ap (λ ws. after_octets front (octets_of ws)) (begin_with words i word h here)
    ∙ ap (after_octets front) (no_octets word.now (from_place words (i + 1)) e)
