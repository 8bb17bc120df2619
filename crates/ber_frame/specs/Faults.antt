-- The first fault of octets that aren't one BER value: outside before inside, left to right, and within one value in
-- the order identifier, tag number, length octets, length, indefinite form, depth, octets wanting.
use Rattle.std.specs.Prelude.{◌≡◌, ◌≢◌, ℕ, zero, suc, ◌+◌, ◌%◌, ◌^◌, ◌<◌, ◌≤◌, ◌⊎◌, Bool, true, false, List, [], ◌∷◌, ◌++◌, length, take, Option, Some, None}
use Rattle.std.specs.List.{concat, AllByRecursion}
use Rattle.gw_base.specs.declared.tag.Tag.{Tag}
use Rattle.ber_frame.specs.declared.fault.BerFault.{BerFault}
use Rattle.ber_frame.specs.declared.fault.BerKind.{BerKind}
use Rattle.ber_frame.specs.declared.fault.BerKind.TheVariants.{Cut, Trailing, Indefinite, LengthTooBig, TooDeep, TagTooBig}
use Rattle.ber_frame.specs.Head.{IsTagNumber, IsIdentifier, IsLengthForm, IsHead}
use Rattle.ber_frame.specs.Value.{are_over, IsInner, IsOneValue}

abbrev pub fault_at : ℕ → BerKind → BerFault
fault_at at kind = record { at = at; kind = kind }

-- the octets end within the identifier: there is none, or the last group of the tag number is missing
abbrev pub IsIdentifierCut : List ℕ → Type 0
IsIdentifierCut [] = Unit {0}
IsIdentifierCut (leading ∷ groups) = (leading % 32 ≡ 31) × AllByRecursion (λ octet. 128 ≤ octet) groups

-- an identifier stands in front, but its tag number is too big
pub record IsTagTooBig (octets : List ℕ) : Type 0 where
  pub leading : ℕ
  pub groups : List ℕ
  pub rest : List ℕ
  pub number : ℕ
  pub joined : octets ≡ leading ∷ (groups ++ rest)
  pub is_number : IsTagNumber leading groups number
  pub too_big : 2 ^ 32 ≤ number

-- what is wrong with the identifier in front of these octets
abbrev pub IdentifierFails : List ℕ → BerKind → Type 0
IdentifierFails octets Cut = IsIdentifierCut octets
IdentifierFails octets TagTooBig = IsTagTooBig octets
IdentifierFails octets _ = ⊥

-- the octets end within the length: there is none, or fewer octets than the first one says follow it
abbrev pub IsLengthCut : List ℕ → Type 0
IsLengthCut [] = Unit {0}
IsLengthCut (first ∷ octets) = (128 < first) × (first < 255) × (128 + length octets < first)

-- the first length octet is FF, or the length is too big
abbrev pub IsLengthTooBig : List ℕ → Type 0
IsLengthTooBig octets =
    ((rest : List ℕ) × (octets ≡ 255 ∷ rest))
    ⊎ ((lengths : List ℕ) × (rest : List ℕ) × (size : ℕ) × (octets ≡ lengths ++ rest) × IsLengthForm lengths (Some size) × (2 ^ 32 ≤ size))

-- what is wrong with the length in front of these octets, in a value that is constructed or isn't
abbrev pub LengthFails : Bool → List ℕ → BerKind → Type 0
LengthFails constructed octets Cut = IsLengthCut octets
LengthFails constructed octets LengthTooBig = IsLengthTooBig octets
LengthFails constructed octets Indefinite = (constructed ≡ false) × (rest : List ℕ) × (octets ≡ 128 ∷ rest)
LengthFails constructed octets _ = ⊥

-- the octets begin with an identifier with this tag, and go on so
pub record AfterIdentifier (octets : List ℕ) (tag : Tag) (rest : List ℕ) : Type 0 where
  pub identifier : List ℕ
  pub joined : octets ≡ identifier ++ rest
  pub is_identifier : IsIdentifier identifier tag

-- what is wrong with the identifier or the length in front of these octets
abbrev pub HeadFails : List ℕ → BerKind → Type 0
HeadFails octets kind =
    IdentifierFails octets kind
    ⊎ ((tag : Tag) × (rest : List ℕ) × AfterIdentifier octets tag rest × LengthFails tag.constructed rest kind)

-- a value has an indefinite length only if it is constructed
abbrev pub IsAllowed : Bool → Option ℕ → Type 0
IsAllowed constructed None = constructed ≡ true
IsAllowed constructed (Some size) = Unit {0}

-- the octets begin with this head, of a value with this tag and of this length, and go on so
pub record AfterHead (octets : List ℕ) (tag : Tag) (size : Option ℕ) (head rest : List ℕ) : Type 0 where
  pub joined : octets ≡ head ++ rest
  pub is_head : IsHead head tag size
  pub is_allowed : IsAllowed tag.constructed size

-- The inner values are good up to one that isn't there where it should be, or has a fault. They begin at this place.
pub record InnerFails (IsValue : List ℕ → Type 0) (Fails : ℕ → List ℕ → BerFault → Type 0) (endless : Bool) (at : ℕ) (octets : List ℕ) (fault : BerFault) : Type 0 where
  pub values : List (List ℕ)
  pub rest : List ℕ
  pub joined : octets ≡ concat values ++ rest
  pub are_values : AllByRecursion (IsInner IsValue endless) values
  pub goes_on : are_over endless rest ≡ false
  pub fails : Fails (at + length (concat values)) rest fault

-- What is wrong with the contents of a value that begins at this place, and its contents at that one: octets are
-- wanting, or an inner value fails.
abbrev pub ContentsFail : (List ℕ → Type 0) → (ℕ → List ℕ → BerFault → Type 0) → ℕ → ℕ → Bool → Option ℕ → List ℕ → BerFault → Type 0
ContentsFail IsValue Fails at from constructed None octets fault = InnerFails IsValue Fails true from octets fault
ContentsFail IsValue Fails at from false (Some size) octets fault = (length octets < size) × (fault ≡ fault_at at Cut)
ContentsFail IsValue Fails at from true (Some size) octets fault =
    ((length octets < size) × (fault ≡ fault_at at Cut))
    ⊎ ((size ≤ length octets) × InnerFails IsValue Fails false from (take size octets) fault)

-- The identifier or the length of the value that begins at this place is wrong.
abbrev pub HeadFault : ℕ → List ℕ → BerFault → Type 0
HeadFault at octets fault = (kind : BerKind) × HeadFails octets kind × (fault ≡ fault_at at kind)

-- They are right, and what follows them is wrong.
abbrev pub PastHead : List ℕ → (Tag → Option ℕ → List ℕ → List ℕ → Type 0) → Type 0
PastHead octets IsWrong =
    (tag : Tag) × (size : Option ℕ) × (head : List ℕ) × (rest : List ℕ) × AfterHead octets tag size head rest × IsWrong tag size head rest

-- The first fault of the value that begins at this place and has these octets before it up to the end of what encloses
-- it, where values may lie at most `levels` deep.
unfoldable pub ValueFails : ℕ → ℕ → List ℕ → BerFault → Type 0
ValueFails zero at octets fault =
    HeadFault at octets fault ⊎ PastHead octets (λ tag size head rest. fault ≡ fault_at at TooDeep)
ValueFails (suc levels) at octets fault =
    HeadFault at octets fault
    ⊎ PastHead octets (λ tag size head rest.
    ContentsFail (IsOneValue levels) (ValueFails levels) at (at + length head) tag.constructed size rest fault)

-- octets follow what stands in front and is right
abbrev pub IsFollowed : (List ℕ → Type 0) → List ℕ → BerFault → Type 0
IsFollowed IsRight octets fault =
    (front : List ℕ) × (rest : List ℕ) × (octets ≡ front ++ rest) × IsRight front × (rest ≢ []) × (fault ≡ fault_at (length front) Trailing)

-- This is the first fault of octets that are to be one value.
abbrev pub BerFails : List ℕ → BerFault → Type 0
BerFails octets fault =
    ValueFails 32 0 octets fault ⊎ IsFollowed (IsOneValue 32) octets fault

-- This is the first fault of octets that are to be one identifier.
abbrev pub IdentifierRefused : List ℕ → BerFault → Type 0
IdentifierRefused octets fault =
    ((kind : BerKind) × IdentifierFails octets kind × (fault ≡ fault_at 0 kind))
    ⊎ IsFollowed (λ identifier. (tag : Tag) × IsIdentifier identifier tag) octets fault
