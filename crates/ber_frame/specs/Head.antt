-- What stands before the contents of a BER value: identifier octets and length octets (ITU-T X.690, clauses 8.1.2 and
-- 8.1.3). Octets are numbers below 256.
use Rattle.std.specs.Prelude.{◌≡◌, ℕ, ◌+◌, ◌*◌, ◌/◌, ◌%◌, ◌^◌, ◌<◌, ◌≤◌, ◌==◌, ◌⊎◌, List, [], ◌∷◌, ◌++◌, length, map, fold, Option, Some, None}
use Rattle.gw_base.specs.declared.tag.Tag.{Tag}

-- the number that digits of this base spell, the highest first
abbrev pub number_in : ℕ → List ℕ → ℕ
number_in base digits = fold (λ high digit. high * base + digit) 0 digits

-- bits 7 to 1
abbrev pub low_bits : ℕ → ℕ
low_bits octet = octet % 128

-- bit 8 is set in each octet but the last (clause 8.1.2.4.2 a)
abbrev pub AreGroups : List ℕ → Type 0
AreGroups [] = ⊥
AreGroups (octet ∷ []) = octet < 128
AreGroups (octet ∷ next ∷ octets) = (128 ≤ octet) × AreGroups (next ∷ octets)

-- The tag number stands in bits 5 to 1 of the leading octet, with no octet after it, or, where these bits are all 1, in
-- the octets after it, in base 128 (clauses 8.1.2.2 c and 8.1.2.4). Leading zero groups, and numbers below 31 in the
-- long form, which the standard forbids, are accepted here.
abbrev pub IsTagNumber : ℕ → List ℕ → ℕ → Type 0
IsTagNumber leading groups number =
    ((leading % 32 < 31) × (groups ≡ []) × (number ≡ leading % 32))
    ⊎ ((leading % 32 ≡ 31) × AreGroups groups × (number ≡ number_in 128 (map low_bits groups)))

-- the class stands in bits 8 and 7 of the leading octet, and bit 6 says whether the value is constructed (clause
-- 8.1.2.2)
abbrev pub tag_of : ℕ → ℕ → Tag
tag_of leading number = record { class = leading / 64; constructed = (leading / 32 % 2) == 1; number = number }

-- These octets are the identifier with this tag. The greatest tag number is this project's.
abbrev pub IsIdentifier : List ℕ → Tag → Type 0
IsIdentifier [] tag = ⊥
IsIdentifier (leading ∷ groups) tag =
    (number : ℕ) × IsTagNumber leading groups number × (number < 2 ^ 32) × (tag ≡ tag_of leading number)

-- The length of the contents: a number of octets, or none in the indefinite form. The short form is one octet below 80,
-- the indefinite form is 80, and the long form an octet from 81 to FE, which says how many octets follow that hold the
-- number (clauses 8.1.3.4 to 8.1.3.6).
abbrev pub IsLengthForm : List ℕ → Option ℕ → Type 0
IsLengthForm [] size = ⊥
IsLengthForm (first ∷ octets) None = (first ≡ 128) × (octets ≡ [])
IsLengthForm (first ∷ octets) (Some size) =
    ((first < 128) × (octets ≡ []) × (size ≡ first))
    ⊎ ((128 < first) × (first < 255) × (first ≡ 128 + length octets) × (size ≡ number_in 256 octets))

-- The greatest length is this project's.
abbrev pub IsInReach : Option ℕ → Type 0
IsInReach None = Unit {0}
IsInReach (Some size) = size < 2 ^ 32

-- these octets are an identifier with this tag, and the octets of this length
pub record IsHead (octets : List ℕ) (tag : Tag) (size : Option ℕ) : Type 0 where
  pub identifier : List ℕ
  pub lengths : List ℕ
  pub joined : octets ≡ identifier ++ lengths
  pub is_identifier : IsIdentifier identifier tag
  pub is_length : IsLengthForm lengths size
  pub in_reach : IsInReach size
