-- Lemmas on numbers and other values: how a number is printed as the word that says it, and read from it.
use Rattle.std.proofs.Common.{◌≡◌, ℕ, ◌<◌, ◌≤◌, nat_le, Bool, true, false, if◌then◌else◌, List, [], ◌∷◌, length, get_or, Option, Some, None, refl, ap, ◌∙◌, arith, ◌^◌, not, ◌==◌, option_and_then, subst, le-leb, Ok, Err, Result, ◌⊎◌}
use Rattle.world_script.proofs.Names.{and_parts, at_most, decimal, decimal-digits_value, decimal_digit, decimal_is_IsNumeral, digit_value, first_decimal, has_decimal_form, is_ascii_digit, is_decimal, leb-true, list_all, nat_tests, number_between, number_of, number_up_to, same_Some}
use Rattle.std.specs.Str.Parse.{AllDigits, digits_value}
use Rattle.std.proofs.lemmas.Str.{digit_value_digit}
use Rattle.std.proofs.lemmas.Str.Parse.{digit_from_value, numerals_by_value, tells_digits}
use Rattle.std.specs.Int.{IsInRange}
use Rattle.world_script.proofs.WordLemmas.{AllGlyphs, IsWord}

-- Parts of what is read.

pub then_some : {A B : Type 0} (o : Option A) (f : A → Option B) (y : B) → option_and_then f o ≡ Some y →
    (x : A) × (o ≡ Some x) × (f x ≡ Some y)
then_some o f y h = grind arith

pub where_some : {A : Type 0} (b : Bool) (o : Option A) (x : A) → (if b then o else None) ≡ Some x →
    (b ≡ true) × (o ≡ Some x)
where_some b o x h = grind arith

pub ok_if : {A E : Type 0} (b : Bool) (x y : A) (e : E) → (if b then Ok x else Err e) ≡ Ok y → (b ≡ true) × (x ≡ y)
ok_if b x y e h = grind arith

pub where_ok : {A E : Type 0} (b : Bool) (r : Result A E) (e : E) (x : A) → (if b then r else Err e) ≡ Ok x →
    (b ≡ true) × (r ≡ Ok x)
where_ok b r e x h = grind arith

pub passed : {A E : Type 0} (b : Bool) (e : E) (r : Result A E) (x : A) → (if b then Err e else r) ≡ Ok x →
    (b ≡ false) × (r ≡ Ok x)
passed b e r x h = grind arith

pub if_cases : {A : Type 0} (b : Bool) (x y r : A) → (if b then x else y) ≡ r →
    ((b ≡ true) × (x ≡ r)) ⊎ ((b ≡ false) × (y ≡ r))
if_cases b x y r h = grind arith

-- Numbers.

digit_range : (c : ℕ) → is_ascii_digit c ≡ true → IsInRange 48 57 c
digit_range c e = (grind (arith, e), grind (arith, e))

below_ten : (c : ℕ) → is_ascii_digit c ≡ true → digit_value c < 10
below_ten c e = let h = digit_range c e in omega (arith, digit_value_digit c h, h.0, h.1)

all_digits : (cs : List ℕ) → list_all is_ascii_digit cs ≡ true → AllDigits 10 cs
all_digits [] e = tt
all_digits (c ∷ cs) e =
    let p = and_parts (is_ascii_digit c) (list_all is_ascii_digit cs) e in (below_ten c p.0, all_digits cs p.1)

some_digit : (word : List ℕ) → has_decimal_form word ≡ true → 0 < length word
some_digit word e = grind arith

not_zero : (d : ℕ) → not (d == 48) ≡ true → d ≡ 48 → ⊥
not_zero d e z = let no : not (48 == 48) ≡ true = subst (λ (x : ℕ). not (x == 48) ≡ true) z e in cc

no_lead : (word : List ℕ) → has_decimal_form word ≡ true → get_or word 0 0 ≡ 48 → length word ≡ 1
no_lead word e z = grind (arith, not_zero)

decimal_word : (word : List ℕ) → is_decimal word ≡ true → digits_value 10 word < 2 ^ 64 →
    decimal (digits_value 10 word) ≡ word
decimal_word word e small =
    let p = and_parts (has_decimal_form word) (list_all is_ascii_digit word) e in
    decimal-digits_value (numerals_by_value _ tells_digits) word (all_digits word p.1) (some_digit word p.0) (no_lead word p.0) small

-- a number is printed as the word that says it
pub number_printed : (most : ℕ) (word : List ℕ) (n : ℕ) → most < 2 ^ 64 → number_up_to most word ≡ Some n →
    (n ≤ most) × (word ≡ decimal n)
number_printed most word n small h = search (arith, nat_tests, where_some, same_Some, leb-true, decimal_word)

pub between_printed : (least most : ℕ) (word : List ℕ) (n : ℕ) → most < 2 ^ 64 →
    number_between least most word ≡ Some n → word ≡ decimal n
between_printed least most word n small h = search (arith, then_some, where_some, number_printed, same_Some)

pub any_printed : (word : List ℕ) (n : ℕ) → number_of word ≡ Some n → word ≡ decimal n
any_printed word n h = (number_printed 18446744073709551615 word n (omega arith) h).1

-- A number reads as itself.

ascii_digit : (c : ℕ) → IsInRange 48 57 c → is_ascii_digit c ≡ true
ascii_digit c h = grind (arith, h.0, h.1)

all_ascii : (ds : List ℕ) → AllDigits 10 ds → list_all is_ascii_digit ds ≡ true
all_ascii [] h = refl
all_ascii (c ∷ cs) h = rw (ascii_digit c (digit_from_value c h.0)) (all_ascii cs h.1)

other_digit : (d : ℕ) → 48 < d → not (d == 48) ≡ true
other_digit d h = let no : (d == 48) ≡ false = grind (arith, h) in rw no refl

led : (ds : List ℕ) → 0 < length ds → 48 < get_or ds 0 0 → has_decimal_form ds ≡ true
led ds some h = grind (arith, other_digit)

decimal_form : (n : ℕ) → n < 2 ^ 64 → has_decimal_form (decimal n) ≡ true
decimal_form n h = grind (arith, decimal_digit, led, decimal_is_IsNumeral, first_decimal)

decimal_reads : (n : ℕ) → n < 2 ^ 64 → is_decimal (decimal n) ≡ true
decimal_reads n h = rw (decimal_form n h) (all_ascii (decimal n) (decimal_is_IsNumeral n h).0.1)

pub printed_number : (most n : ℕ) → n ≤ most → n < 2 ^ 64 → number_up_to most (decimal n) ≡ Some n
printed_number most n h small =
    let within : at_most most n ≡ Some n = rw (le-leb n most h) refl in
    (λ i. if decimal_reads n small i then at_most most ((decimal_is_IsNumeral n small).1 i) else None) ∙ within

pub printed_between : (least most n : ℕ) → least ≤ n → n ≤ most → n < 2 ^ 64 →
    number_between least most (decimal n) ≡ Some n
printed_between least most n low high small =
    ap (λ (o : Option ℕ). option_and_then (λ n. if nat_le least n then Some n else None) o) (printed_number most n high small) ∙ rw (le-leb least n low) refl

digit_glyphs : (ds : List ℕ) → AllDigits 10 ds → AllGlyphs ds
digit_glyphs [] h = tt
digit_glyphs (c ∷ cs) h =
    let d = digit_from_value c h.0 in (omega (arith, d.0), omega (arith, d.1), digit_glyphs cs h.1)

pub decimal_is_word : (n : ℕ) → n < 2 ^ 64 → IsWord (decimal n)
decimal_is_word n h = let d = decimal_is_IsNumeral n h in (d.0.0, digit_glyphs (decimal n) d.0.1)
