-- Numbers and the octets that spell them.
use Rattle.std.proofs.Common.{◌≡◌, ℕ, zero, suc, ◌+◌, ◌*◌, ◌/◌, ◌%◌, ◌<◌, List, [], ◌∷◌, length, get_or, refl, ap, arith}
use Rattle.gtpp_header.specs.Header.{two_octets}
use Rattle.gtpp_elements.specs.Numbers.{number_octets, numbers_in}

-- each octet is below 256
abbrev pub AreOctets : List ℕ → Type 0
AreOctets octets = (k : ℕ) → get_or octets k 0 < 256

-- two octets for each number
pub length_of_octets : (numbers : List ℕ) → length (number_octets numbers) ≡ 2 * length numbers
length_of_octets [] = refl
length_of_octets (number ∷ numbers) = omega (arith, length_of_octets numbers)

-- the numbers of an even list of octets spell it
pub octets_again : (octets : List ℕ) → AreOctets octets → length octets % 2 ≡ 0 → number_octets (numbers_in octets) ≡ octets
octets_again [] fit even = refl
octets_again (high ∷ []) fit even = absurd (omega arith)
octets_again (high ∷ low ∷ octets) fit even =
    let high_again : two_octets high low / 256 ≡ high = omega (arith, fit 0, fit 1) in
    let low_again : two_octets high low % 256 ≡ low = omega (arith, fit 0, fit 1) in
    rw (high_again, low_again) (ap (λ (rest : List ℕ). high ∷ low ∷ rest) (octets_again octets (λ k. fit (suc (suc k))) (omega arith)))

-- the numbers that octets of numbers spell
pub numbers_again : (numbers : List ℕ) → numbers_in (number_octets numbers) ≡ numbers
numbers_again [] = refl
numbers_again (number ∷ numbers) =
    let same : two_octets (number / 256) (number % 256) ≡ number = omega arith in
    rw same (ap (λ (rest : List ℕ). number ∷ rest) (numbers_again numbers))

-- the k-th number stands in the octets at 2 k and behind it
pub number_at : (octets : List ℕ) (k : ℕ) → k < length (numbers_in octets) → two_octets (get_or octets (2 * k) 0) (get_or octets (2 * k + 1) 0) ≡ get_or (numbers_in octets) k 0
number_at [] k below = absurd (omega arith)
number_at (high ∷ []) k below = absurd (omega arith)
number_at (high ∷ low ∷ octets) zero below = refl
number_at (high ∷ low ∷ octets) (suc k) below =
    let first : 2 * suc k ≡ suc (suc (2 * k)) = omega arith in
    let second : 2 * suc k + 1 ≡ suc (suc (2 * k + 1)) = omega arith in
    rw (second, first) (number_at octets k (omega arith))

-- the octets of a number stand among those of all
pub number_within : (octets numbers : List ℕ) (k : ℕ) → number_octets (numbers_in octets) ≡ octets → numbers_in octets ≡ numbers → k < length numbers → 2 * k + 1 < length octets
number_within octets numbers k spelled is below = omega (arith, ap length spelled, ap length is, length_of_octets (numbers_in octets))

pub count_of_numbers : (octets numbers : List ℕ) → number_octets (numbers_in octets) ≡ octets → numbers_in octets ≡ numbers → length octets / 2 ≡ length numbers
count_of_numbers octets numbers spelled is = omega (arith, ap length spelled, ap length is, length_of_octets (numbers_in octets))

-- two octets read as a number are the k-th
pub number_is : (octets numbers : List ℕ) (k number : ℕ) → numbers_in octets ≡ numbers → k < length numbers →
    number ≡ get_or octets (2 * k) 0 * 256 + (get_or octets (2 * k + 1) 0 * 1 + 0) → number ≡ get_or numbers k 0
number_is octets numbers k number is below read =
    let there : two_octets (get_or octets (2 * k) 0) (get_or octets (2 * k + 1) 0) ≡ get_or (numbers_in octets) k 0 = number_at octets k (omega (arith, ap length is)) in
    omega (arith, there, read, ap (λ (ns : List ℕ). get_or ns k 0) is)
