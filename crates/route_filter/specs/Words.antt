-- The words of a line, and the numbers and octets that words say.
use Rattle.std.specs.Prelude.{ℕ, ◌+◌, ◌*◌, Bool, true, false, not, ◌==◌, ◌&&◌, nat_le, if◌then◌else◌, List, [], ◌∷◌, ◌++◌, filter, Option, Some, None, option_map, option_and_then, Result, Ok, Err}
use Rattle.std.specs.Borrow.{Bor}
use Rattle.std.specs.List.{list_all, slice_split}
use Rattle.std.specs.Char.{is_ascii_digit, digit_value}
use Rattle.std.specs.Str.Parse.{digits_value}
use Rattle.hex.specs.Hex.{decode_of}
use Rattle.hex.specs.declared.error.FromHexError.{FromHexError}

infixl 10 ◌>>=◌
abbrev pub ◌>>=◌ : {A B : Type 0} → Option A → (A → Option B) → Option B
o >>= f = option_and_then f o

-- whether a list has no element
abbrev pub is_empty : {A : Type 0} → List A → Bool
is_empty [] = true
is_empty (x ∷ xs) = false

-- what stands before the first octet that is the separator, and what follows it
abbrev pub cut_at : ℕ → List ℕ → Option (List ℕ × List ℕ)
cut_at separator [] = None
cut_at separator (x ∷ xs) = if x == separator then Some ([], xs) else option_map (λ parts. (x ∷ parts.0, parts.1)) (cut_at separator xs)

-- both parts, as the code lends them
abbrev pub cut_parts : (Bor (List ℕ) × Bor (List ℕ)) → List ℕ × List ℕ
cut_parts parts = (parts.0.now, parts.1.now)

-- a word in front of others, if it isn't empty
abbrev pub with_word : List ℕ → List (List ℕ) → List (List ℕ)
with_word [] words = words
with_word (x ∷ xs) words = (x ∷ xs) ∷ words

-- the words of a line: its parts between spaces that aren't empty
abbrev pub words_of : List ℕ → List (List ℕ)
words_of line = filter (λ word. not (is_empty word)) (slice_split (λ x. x == 32) line)

-- Numbers.

-- there is a digit, and no zero before another one
abbrev pub has_decimal_form : List ℕ → Bool
has_decimal_form [] = false
has_decimal_form (d ∷ []) = true
has_decimal_form (d ∷ e ∷ ds) = not (d == 48)

-- a word is a number in decimal: digits and nothing else, with no leading zero
abbrev pub is_decimal : List ℕ → Bool
is_decimal word = has_decimal_form word && list_all is_ascii_digit word

-- a number, where it is at most `most`
abbrev pub at_most : ℕ → ℕ → Option ℕ
at_most most n = if nat_le n most then Some n else None

-- the number that a digit makes behind others, where 64 bits hold it
abbrev pub with_digit : ℕ → ℕ → Option ℕ
with_digit value octet =
    if is_ascii_digit octet then at_most 18446744073709551615 (value * 10 + digit_value octet) else None

-- the number that a word says in decimal, where it is at most `most`
abbrev pub number_up_to : ℕ → List ℕ → Option ℕ
number_up_to most word = if is_decimal word then at_most most (digits_value 10 word) else None

-- Octets.

-- what was decoded, where the text was two hexadecimal digits an octet
abbrev pub decoded : Result (List ℕ) FromHexError → Option (List ℕ)
decoded (Ok octets) = Some octets
decoded (Err e) = None

-- the octets that a word spells in hexadecimal
abbrev pub octets_in : List ℕ → Option (List ℕ)
octets_in word = decoded (decode_of word)

-- the octets that words spell in hexadecimal, joined: each word has whole octets
abbrev pub octets_of : List (List ℕ) → Option (List ℕ)
octets_of [] = Some []
octets_of (word ∷ words) = do
  octets ← octets_in word
  rest ← octets_of words
  Some (octets ++ rest)
