-- Octets, and the numbers and lists that stand in them.
use Rattle.std.proofs.Common.{◌≡◌, ℕ, zero, suc, ◌+◌, ◌/◌, ◌%◌, ◌<◌, ◌≤◌, ◌^◌, List, [], ◌∷◌, ◌++◌, length, take, drop, get_or, refl, ap, sym, ◌∙◌, arith}
use Rattle.std.specs.Prelude.{slice_index}
use Rattle.std.proofs.lemmas.List.{drop_at, take-append-drop, length-take, length-drop, drop-drop}
use Rattle.std.proofs.lemmas.Nat.{be_bytes_2, be_bytes_4}
use Rattle.byteorder.specs.Endian.{big_bytes, big_number}
use Rattle.byteorder.specs.Numbers.{big_from-lt, big_from-take}
use Rattle.cdr_file.specs.Reading.{high_at, low_at, number_at}
use Rattle.cdr_file.specs.SharedOctet.{shared_octet}
use Rattle.cdr_file.specs.Spelling.{AreOctets}

-- octets past a place are octets
pub AreOctets-drop : (n : ℕ) (octets : List ℕ) → AreOctets octets → AreOctets (drop n octets)
AreOctets-drop (suc n) (octet ∷ octets) fit = AreOctets-drop n octets (λ k. fit (suc k))
AreOctets-drop _ _ fit = fit

-- what follows a front of so many octets
pub past_front : (place : ℕ) (octets front back : List ℕ) → octets ≡ front ++ back → length front ≡ place → drop place octets ≡ back
past_front place octets front back is long = ap (λ (o : List ℕ). drop place o) is ∙ drop_at front back place long

AreOctets-take : (n : ℕ) (octets : List ℕ) → AreOctets octets → (k : ℕ) → get_or (take n octets) k 0 < 256
AreOctets-take (suc n) (octet ∷ octets) fit zero = fit 0
AreOctets-take (suc n) (octet ∷ octets) fit (suc k) = AreOctets-take n octets (λ j. fit (suc j)) k
AreOctets-take _ _ fit k = omega arith

-- octets are those of the number that they begin with, and what follows them
pub number_front_4 : (octets : List ℕ) → AreOctets octets → 4 ≤ length octets → octets ≡ big_bytes 4 (big_number 4 octets) ++ drop 4 octets
number_front_4 octets fit long =
    let front : List ℕ = take 4 octets in
    let back = be_bytes_4 front (big_number 4 front) (omega (arith, length-take 4 octets))
    (AreOctets-take 4 octets fit) (omega arith) in
    sym (take-append-drop 4 octets) ∙ ap (λ (o : List ℕ). o ++ drop 4 octets) (sym back)
    ∙ ap (λ (n : ℕ). big_bytes 4 n ++ drop 4 octets) (big_from-take 0 4 4 octets (omega arith))

pub number_front_2 : (octets : List ℕ) → AreOctets octets → 2 ≤ length octets → octets ≡ big_bytes 2 (big_number 2 octets) ++ drop 2 octets
number_front_2 octets fit long =
    let front : List ℕ = take 2 octets in
    let back = be_bytes_2 front (big_number 2 front) (omega (arith, length-take 2 octets))
    (AreOctets-take 2 octets fit) (omega arith) in
    sym (take-append-drop 2 octets) ∙ ap (λ (o : List ℕ). o ++ drop 2 octets) (sym back)
    ∙ ap (λ (n : ℕ). big_bytes 2 n ++ drop 2 octets) (big_from-take 0 2 2 octets (omega arith))

-- the same from a place on
pub number_from_4 : (place : ℕ) (octets : List ℕ) → AreOctets octets → place + 4 ≤ length octets →
    drop place octets ≡ big_bytes 4 (number_at 4 place octets) ++ drop (place + 4) octets
number_from_4 place octets fit long =
    number_front_4 (drop place octets) (AreOctets-drop place octets fit) (omega (arith, length-drop place octets))
    ∙ ap (λ (rest : List ℕ). big_bytes 4 (number_at 4 place octets) ++ rest) (drop-drop 4 place octets)

pub number_from_2 : (place : ℕ) (octets : List ℕ) → AreOctets octets → place + 2 ≤ length octets →
    drop place octets ≡ big_bytes 2 (number_at 2 place octets) ++ drop (place + 2) octets
number_from_2 place octets fit long =
    number_front_2 (drop place octets) (AreOctets-drop place octets fit) (omega (arith, length-drop place octets))
    ∙ ap (λ (rest : List ℕ). big_bytes 2 (number_at 2 place octets) ++ rest) (drop-drop 2 place octets)

-- so many octets from a place on, and what follows them
pub part_from : (place count : ℕ) (octets : List ℕ) → drop place octets ≡ take count (drop place octets) ++ drop (place + count) octets
part_from place count octets =
    sym (take-append-drop count (drop place octets))
    ∙ ap (λ (rest : List ℕ). take count (drop place octets) ++ rest) (drop-drop count place octets)

pub length_of_part : (place count : ℕ) (octets : List ℕ) → place + count ≤ length octets → length (take count (drop place octets)) ≡ count
length_of_part place count octets long = omega (arith, length-take count (drop place octets), length-drop place octets)

-- the octet at a place, and what follows it
pub octet_from : (place : ℕ) (octets : List ℕ) → place < length octets → drop place octets ≡ slice_index octets place ∷ drop (suc place) octets
octet_from place [] long = absurd (omega arith)
octet_from zero (octet ∷ octets) long = refl
octet_from (suc place) (octet ∷ octets) long = octet_from place octets (omega arith)

-- an octet is that of the two numbers that share it
pub shared_again : (place : ℕ) (octets : List ℕ) → shared_octet (high_at place octets) (low_at place octets) ≡ slice_index octets place
shared_again place octets = omega arith

pub shared_from : (place : ℕ) (octets : List ℕ) → place < length octets →
    drop place octets ≡ shared_octet (high_at place octets) (low_at place octets) ∷ drop (suc place) octets
shared_from place octets long =
    octet_from place octets long ∙ ap (λ (octet : ℕ). octet ∷ drop (suc place) octets) (sym (shared_again place octets))

-- two numbers that share an octet are read from it
pub high_again : (high low : ℕ) → low < 32 → shared_octet high low / 32 ≡ high
high_again high low fits = omega arith

pub low_again : (high low : ℕ) → low < 32 → shared_octet high low % 32 ≡ low
low_again high low fits = omega arith

-- a number fits its octets
pub number_fits : (width place : ℕ) (octets : List ℕ) → AreOctets octets → number_at width place octets < 256 ^ width
number_fits width place octets fit = big_from-lt 0 width (drop place octets) (AreOctets-drop place octets fit)

-- the octet after a front
pub octet_past : (place : ℕ) (front back : List ℕ) → length front ≡ place → slice_index (front ++ back) place ≡ slice_index back 0
octet_past place [] back long = let e : place ≡ 0 = omega arith in rw e refl
octet_past zero (octet ∷ front) back long = absurd (omega arith)
octet_past (suc place) (octet ∷ front) back long = octet_past place front back (omega arith)
