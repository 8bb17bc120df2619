-- A list of sequence numbers, each in two octets (3GPP TS 32.295, clauses 6.2.4.5 and 6.2.4.6).
use Rattle.std.specs.Prelude.{ℕ, ◌/◌, ◌%◌, List, [], ◌∷◌}
use Rattle.gtpp_header.specs.Header.{two_octets}

-- the numbers that the octets spell, two octets each
abbrev pub numbers_in : List ℕ → List ℕ
numbers_in (high ∷ low ∷ octets) = two_octets high low ∷ numbers_in octets
numbers_in _ = []

-- the octets of the numbers
abbrev pub number_octets : List ℕ → List ℕ
number_octets [] = []
number_octets (number ∷ numbers) = number / 256 ∷ number % 256 ∷ number_octets numbers
