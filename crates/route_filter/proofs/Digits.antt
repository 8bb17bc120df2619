-- Lemmas on words of decimal digits, which are read a digit at a time.
use Rattle.std.proofs.Common.{◌≡◌, ℕ, suc, ◌+◌, ◌*◌, ◌<◌, ◌≤◌, nat_le, Bool, true, false, if◌then◌else◌, List, [], ◌∷◌, length, drop, get_or, Option, Some, None, ap, sym, ◌∙◌, arith}
use Rattle.std.specs.Char.{is_ascii_digit, digit_value}
use Rattle.std.specs.List.{list_all}
use Rattle.std.specs.Str.Parse.{digits_value_after}
use Rattle.std.proofs.Math.Seq.{drop-cons}
use Rattle.std.proofs.lemmas.Bool.Decides.{nat_tests}
use Rattle.std.proofs.lemmas.List.{at_drop_all}
use Rattle.route_filter.specs.Words.{at_most, has_decimal_form, number_up_to, with_digit, ◌>>=◌}

-- the number that the digits that are left say behind those of `n`, where it is at most `most`
abbrev pub number_after : ℕ → ℕ → List ℕ → Option ℕ
number_after most n rest = if list_all is_ascii_digit rest then at_most most (digits_value_after 10 n rest) else None

grows : (n : ℕ) (ds : List ℕ) → n ≤ digits_value_after 10 n ds
grows n [] = omega arith
grows n (d ∷ ds) = let later = grows (n * 10 + digit_value d) ds in omega arith

above : (most n : ℕ) → most < n → at_most most n ≡ None
above most n h = grind (arith, nat_tests)

too_large : (b : Bool) (most n : ℕ) → most < n → (if b then at_most most n else None) ≡ None
too_large b most n h = grind (arith, above)

-- a number so large isn't followed by any that is small enough
beyond : (most n : ℕ) (rest : List ℕ) → most < n → number_after most n rest ≡ None
beyond most n rest h = search (arith, too_large, grows)

one_more : (most n : ℕ) (rest : List ℕ) (small : Bool) → nat_le n 18446744073709551615 ≡ small →
    most ≤ 18446744073709551615 →
    number_after most n rest ≡ ((if small then Some n else None) >>= (λ v. number_after most v rest))
one_more most n rest small e h = grind (arith, nat_tests, beyond)

-- a digit more, or none that is small enough
pub one_digit : (most n d : ℕ) (rest : List ℕ) → most ≤ 18446744073709551615 →
    number_after most n (d ∷ rest) ≡ (with_digit n d >>= (λ v. number_after most v rest))
one_digit most n d rest h = grind (arith, nat_tests, one_more)

-- the digit at this place is taken
pub taken : (most n next : ℕ) (word : List ℕ) (i : ℕ) → most ≤ 18446744073709551615 → i < length word →
    Some next ≡ with_digit n (get_or word i 0) →
    number_after most n (drop i word) ≡ number_after most next (drop (i + 1) word)
taken most n next word i h within e =
    let here : i + 1 ≡ suc i = omega arith in
    rw here (ap (number_after most n) (drop-cons word i 0 within)
    ∙ one_digit most n (get_or word i 0) (drop (suc i) word) h
    ∙ ap (λ o. o >>= (λ v. number_after most v (drop (suc i) word))) (sym e))

-- it isn't
pub refused : (most n : ℕ) (word : List ℕ) (i : ℕ) → most ≤ 18446744073709551615 → i < length word →
    None ≡ with_digit n (get_or word i 0) →
    number_after most n (drop i word) ≡ None
refused most n word i h within e = search (arith, drop-cons, one_digit)

pub from_form : (most : ℕ) (word : List ℕ) → has_decimal_form word ≡ true →
    number_up_to most word ≡ number_after most 0 word
from_form most word e = rw e

pub no_form : (most : ℕ) (word : List ℕ) → has_decimal_form word ≡ false → number_up_to most word ≡ None
no_form most word e = rw e

-- no digit is left
pub ended : (most n : ℕ) (word : List ℕ) (i : ℕ) → length word ≤ i → number_after most n (drop i word) ≡ at_most most n
ended most n word i h = at_drop_all (number_after most n) word i h
