-- Lemmas on octets in hexadecimal, which are printed as words that say them again.
use Rattle.std.proofs.Common.{◌≡◌, ℕ, ◌+◌, ◌*◌, ◌%◌, ◌<◌, ◌≤◌, List, [], ◌∷◌, ◌++◌, length, Some, Result, Ok, refl, ap, sym, ◌∙◌, arith, append-nil, zero, suc, ◌/◌, map, length-append}
use Rattle.world_script.proofs.Names.{decode_of, decode_pairs, decoded, encode_upper, encode_with, hex_digit_value, IsBytes, nat_tests, octets_in, octets_of, pair_value, records_of, same_Some, two_octets, upper_digits, value_at, version_of, version_text, ◌>>=◌}
use Rattle.hex.proofs.HexLemmas.{IsDigits-upper_digits, decode_of-encode_upper, decode_of-ok, length-encode_with}
use Rattle.hex.specs.declared.error.FromHexError.{FromHexError}
use Rattle.world_script.proofs.WordLemmas.{AllGlyphs, AreWords, IsWord, span}
use Rattle.world_script.proofs.ValueLemmas.{passed, then_some}

-- Digits are printable.

then_ok : {A B : Type 0} (r : Result A FromHexError) (f : A → Result B FromHexError) (y : B) → (r >>= f) ≡ Ok y →
    (x : A) × (r ≡ Ok x) × (f x ≡ Ok y)
then_ok r f y h = grind arith

pub digit_glyph : (c v : ℕ) → hex_digit_value c ≡ Some v → (32 < c) × (c ≤ 126)
digit_glyph c v h = (grind (arith, h), grind (arith, h))

glyph : (c place v : ℕ) → value_at c place ≡ Ok v → (32 < c) × (c ≤ 126)
glyph c place v h = grind (arith, nat_tests, digit_glyph)

pairs_glyphs : (place : ℕ) (digits octets : List ℕ) → decode_pairs place digits ≡ Ok octets → AllGlyphs digits
unfolding decode_pairs
pairs_glyphs place [] octets h = tt
pairs_glyphs place (d ∷ []) octets h = absurd (cc)
pairs_glyphs place (high ∷ low ∷ rest) octets h =
    let octet = then_ok (pair_value high low place) _ octets h in
    let first = then_ok (value_at high place) _ octet.0 octet.1 in
    let second = then_ok (value_at low (place + 1)) _ octet.0 first.2 in
    let later = then_ok (decode_pairs (place + 2) rest) _ octets octet.2 in
    let a = glyph high place first.0 first.1 in
    let b = glyph low (place + 1) second.0 second.1 in
    (a.0, a.1, (b.0, b.1, pairs_glyphs (place + 2) rest later.0 later.1))

pub from_decoded : (r : Result (List ℕ) FromHexError) (octets : List ℕ) → decoded r ≡ Some octets → r ≡ Ok octets
from_decoded r octets h = grind arith

-- a word that spells octets has no space
pub octets_glyphs : (word octets : List ℕ) → octets_in word ≡ Some octets → AllGlyphs word
octets_glyphs word octets h = search (arith, pairs_glyphs, passed, from_decoded)

-- octets that a word says
pub octets_said : (word octets : List ℕ) → octets_in word ≡ Some octets →
    (length word ≡ 2 * length octets) × IsBytes octets
octets_said word octets h = let p = decode_of-ok word octets (from_decoded (decode_of word) octets h) in (p.2, p.3)

-- they are printed as a word that says them
pub printed_octets : (octets : List ℕ) → IsBytes octets → octets_in (encode_upper octets) ≡ Some octets
printed_octets octets h = ap decoded (decode_of-encode_upper octets h)

pub printed_length : (octets : List ℕ) → length (encode_upper octets) ≡ 2 * length octets
printed_length octets = length-encode_with upper_digits octets

hex_glyphs : (octets : List ℕ) → IsBytes octets → AllGlyphs (encode_upper octets)
unfolding encode_with
hex_glyphs [] h = tt
hex_glyphs (b ∷ rest) h =
    let fits : b < 256 = h 0 in
    let high = digit_glyph _ (b / 16) (IsDigits-upper_digits (b / 16) (omega arith)) in
    let low = digit_glyph _ (b % 16) (IsDigits-upper_digits (b % 16) (omega arith)) in
    (high.0, high.1, (low.0, low.1, hex_glyphs rest (λ k. h (suc k))))

pub hex_word : (octets : List ℕ) → 0 < length octets → IsBytes octets → IsWord (encode_upper octets)
hex_word octets some h = (omega (arith, printed_length octets, some), hex_glyphs octets h)

-- Records, one a word.

pub record ArePrinted (words : List (List ℕ)) (records : List (List ℕ)) : Type 0 where
  pub are : AreWords (map encode_upper records)
  pub long : span (map encode_upper records) ≡ span words
  pub again : records_of (map encode_upper records) ≡ Some records

pub records_printed : (words records : List (List ℕ)) → AreWords words → records_of words ≡ Some records →
    ArePrinted words records
records_printed [] records are h = search (arith, same_Some)
records_printed (word ∷ words) records are h =
    let here = then_some (octets_in word) _ records h in
    let later = then_some (records_of words) _ records here.2 in
    let rest = records_printed words later.0 are.1 later.1 in
    search (arith, octets_said, same_Some, hex_word, printed_length, printed_octets)

-- Octets of all words, joined.

joined_bytes : (a b : List ℕ) → IsBytes a → IsBytes b → IsBytes (a ++ b)
joined_bytes [] b h k i = k i
joined_bytes (x ∷ a) b h k zero = h 0
joined_bytes (x ∷ a) b h k (suc i) = joined_bytes a b (λ j. h (suc j)) k i

pub no_bytes : IsBytes []
no_bytes i = omega arith

octets_joined : (words : List (List ℕ)) (octets : List ℕ) → octets_of words ≡ Some octets →
    (2 * length octets + length words ≡ span words) × IsBytes octets
octets_joined [] octets h = rw (sym (same_Some [] octets h)) (refl, no_bytes)
octets_joined (word ∷ words) octets h =
    let here = then_some (octets_in word) _ octets h in
    let later = then_some (octets_of words) _ octets here.2 in
    let said = octets_said word here.0 here.1 in
    let rest = octets_joined words later.0 later.1 in
    search (arith, same_Some, length-append, joined_bytes)

words_room : (words : List (List ℕ)) → AreWords words → 2 * length words ≤ span words
words_room [] are = omega arith
words_room (word ∷ words) are = omega (arith, are.0.0, words_room words are.1)

-- octets that a word says are those that it says alone
pub said_alone : (word octets : List ℕ) → octets_in word ≡ Some octets → octets_of (word ∷ []) ≡ Some octets
said_alone word octets h = rw h (ap Some (append-nil octets))

pub record IsPrinted (words : List (List ℕ)) (octets : List ℕ) : Type 0 where
  pub is : IsWord (encode_upper octets)
  pub short : 1 + length (encode_upper octets) ≤ span words
  pub again : octets_of (encode_upper octets ∷ []) ≡ Some octets

pub datagram_printed : (word : List ℕ) (words : List (List ℕ)) (octets : List ℕ) → AreWords (word ∷ words) →
    octets_of (word ∷ words) ≡ Some octets →
    IsPrinted (word ∷ words) octets
datagram_printed word words octets are h =
    let said = octets_joined (word ∷ words) octets h in
    let room = words_room (word ∷ words) are in
    record {
      is = hex_word octets (omega (arith, said.0, room)) said.1;
      short = omega (arith, said.0, printed_length octets);
      again = said_alone (encode_upper octets) octets (printed_octets octets said.1);
    }

-- Versions.

pub record IsVersion (word : List ℕ) (version : ℕ) : Type 0 where
  pub is : IsWord (version_text version)
  pub long : length (version_text version) ≡ length word
  pub again : version_of (version_text version) ≡ Some version

both_octets : (octets : List ℕ) (version : ℕ) → two_octets octets ≡ Some version → IsBytes octets →
    (version / 256 ∷ version % 256 ∷ [] ≡ octets) × (length octets ≡ 2)
both_octets (high ∷ low ∷ []) version h bytes =
    let small : low < 256 = bytes 1 in
    let sum : 256 * high + low ≡ version = same_Some (256 * high + low) version h in
    let first : version / 256 ≡ high = omega (arith, sum, small) in
    let second : version % 256 ≡ low = omega (arith, sum, small) in
    (λ i. first i ∷ second i ∷ [], refl)
both_octets _ version h bytes = let no : ⊥ = cc in absurd no

pub version_printed : (word : List ℕ) (version : ℕ) → version_of word ≡ Some version → IsVersion word version
version_printed word version h =
    let here = then_some (octets_in word) two_octets version h in
    let said = octets_said word here.0 here.1 in
    let both = both_octets here.0 version here.2 said.1 in
    let text : version_text version ≡ encode_upper here.0 = ap encode_upper both.0 in
    record {
      is = rw text (hex_word here.0 (omega (arith, both.1)) said.1);
      long = ap length text ∙ omega (arith, printed_length here.0, said.0);
      again = rw (text, printed_octets here.0 said.1) here.2;
    }
