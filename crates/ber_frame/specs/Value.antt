-- A BER value: identifier, length and contents (ITU-T X.690, clause 8.1.1).
use Rattle.std.specs.Prelude.{◌≡◌, ℕ, zero, suc, Bool, true, false, List, [], ◌∷◌, ◌++◌, length, Option, Some, None}
use Rattle.std.specs.List.{concat, AllByRecursion}
use Rattle.gw_base.specs.declared.tag.Tag.{Tag}
use Rattle.ber_frame.specs.Head.{IsHead}

-- the octets begin with 00 00
abbrev pub begins_with_end : List ℕ → Bool
begins_with_end [] = false
begins_with_end (a ∷ []) = false
begins_with_end (zero ∷ zero ∷ octets) = true
begins_with_end (zero ∷ suc b ∷ octets) = false
begins_with_end (suc a ∷ b ∷ octets) = false

-- Whether the inner values are over before these octets. Those of a definite length fill the contents exactly, and
-- after those of an endless one 00 00 stands in the place of a value (clause 8.1.5).
abbrev pub are_over : Bool → List ℕ → Bool
are_over false [] = true
are_over false (octet ∷ octets) = false
are_over true octets = begins_with_end octets

-- an inner value, which doesn't begin where the inner values are over
abbrev pub IsInner : (List ℕ → Type 0) → Bool → List ℕ → Type 0
IsInner IsValue endless octets = IsValue octets × (are_over endless octets ≡ false)

-- The contents of a value: of a primitive one any octets, as many as the length says; of a constructed one values, one
-- after the other, as many octets in all as the length says, or, where the length is indefinite, with 00 00 after them.
-- A primitive value has no indefinite length (clauses 8.1.3.2, 8.1.3.6 and 8.1.4).
abbrev pub IsContents : (List ℕ → Type 0) → Bool → Option ℕ → List ℕ → Type 0
IsContents IsValue false (Some size) octets = length octets ≡ size
IsContents IsValue true (Some size) octets =
    (length octets ≡ size) × (values : List (List ℕ)) × AllByRecursion (IsInner IsValue false) values × (octets ≡ concat values)
IsContents IsValue false None octets = ⊥
IsContents IsValue true None octets =
    (values : List (List ℕ)) × AllByRecursion (IsInner IsValue true) values × (octets ≡ concat values ++ 0 ∷ 0 ∷ [])

-- these octets are a value whose parts stand in this way
pub record HasParts (IsValue : List ℕ → Type 0) (octets : List ℕ) (tag : Tag) : Type 0 where
  pub size : Option ℕ
  pub head : List ℕ
  pub contents : List ℕ
  pub joined : octets ≡ head ++ contents
  pub is_head : IsHead head tag size
  pub is_contents : IsContents IsValue tag.constructed size contents

-- These octets are one value with this tag, in which values lie at most `levels` deep, the value itself counted.
unfoldable pub BerValue : ℕ → List ℕ → Tag → Type 0
BerValue zero octets tag = ⊥
BerValue (suc levels) octets tag = HasParts (λ inner. (inner_tag : Tag) × BerValue levels inner inner_tag) octets tag

-- one value, whatever its tag
abbrev pub IsOneValue : ℕ → List ℕ → Type 0
IsOneValue levels octets = (tag : Tag) × BerValue levels octets tag
