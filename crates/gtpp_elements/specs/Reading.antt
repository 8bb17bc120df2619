-- Reading the elements of a body from its first octet on. The first element that is faulty decides: one that runs past the
-- body, or one of a fixed length that isn't known, behind which nothing can be found.
use Rattle.std.specs.Prelude.{◌≡◌, ℕ, zero, suc, ◌-◌, ◌<◌, nat_lt, not, if◌then◌else◌, List, [], ◌∷◌, ◌++◌, length, take, drop, Result, Ok, Err, IsTrue, false, ◌⊎◌}
use Rattle.gtpp_header.specs.Header.{two_octets}
use Rattle.gtpp_elements.specs.Elements.{Element, SpellElements, is_fixed, is_known_fixed}
use Rattle.gtpp_elements.specs.declared.fault.ElementFault.{ElementFault}
use Rattle.gtpp_elements.specs.declared.fault.ElementFault.TheVariants.{Overrun, UnknownFixed}

-- behind the type of a known fixed element, at this place: the octet of the value, and what follows it
abbrev pub fixed_at : ℕ → ℕ → List ℕ → Result (Element × List ℕ) ElementFault
fixed_at at kind (octet ∷ rest) = Ok (record { kind = kind; value = octet ∷ [] }, rest)
fixed_at at kind [] = Err (Overrun at)

-- behind the type of an element that states its length: the length, the value, and what follows it
abbrev pub sized_at : ℕ → ℕ → List ℕ → Result (Element × List ℕ) ElementFault
sized_at at kind (high ∷ low ∷ octets) =
    if nat_lt (length octets) (two_octets high low) then Err (Overrun at)
    else Ok (record { kind = kind; value = take (two_octets high low) octets }, drop (two_octets high low) octets)
sized_at at kind _ = Err (Overrun at)

-- the element at the front, and what follows it, or what is wrong with it; at is its place
abbrev pub element_at : ℕ → List ℕ → Result (Element × List ℕ) ElementFault
element_at at (kind ∷ octets) =
    if not (is_fixed kind) then sized_at at kind octets
    else if is_known_fixed kind then fixed_at at kind octets
    else Err (UnknownFixed kind at)
element_at at [] = Err (Overrun at)

-- an element in front of the others, where they can be read
abbrev pub before : Element → Result (List Element) ElementFault → Result (List Element) ElementFault
before element (Ok elements) = Ok (element ∷ elements)
before element (Err fault) = Err fault

-- an element, if it can be read, and then those that are read from what follows it
abbrev pub and_then : Result (Element × List ℕ) ElementFault → (List ℕ → Result (List Element) ElementFault) → Result (List Element) ElementFault
and_then (Ok found) following = before found.0 (following found.1)
and_then (Err fault) following = Err fault

-- The elements that are left of a body of so many octets, or the first fault. There are at most as many as octets: where
-- more were to come, the rest would overrun.
unfoldable pub elements_left : ℕ → ℕ → List ℕ → Result (List Element) ElementFault
elements_left most total [] = Ok []
elements_left zero total (kind ∷ octets) = Err (Overrun (total - length (kind ∷ octets)))
elements_left (suc most) total (kind ∷ octets) =
    and_then (element_at (total - length (kind ∷ octets)) (kind ∷ octets)) (λ rest. elements_left most total rest)

-- the elements of a body, or its first fault
abbrev pub elements_in : List ℕ → Result (List Element) ElementFault
elements_in body = elements_left (length body) (length body) body

-- the element at the front is of a known type, or states its length, and runs past the end
abbrev pub RunsPast : List ℕ → Type 0
RunsPast [] = ⊥
RunsPast (kind ∷ octets) =
    (IsTrue (is_fixed kind) × IsTrue (is_known_fixed kind) × (octets ≡ []))
    ⊎ ((is_fixed kind ≡ false) × IsCutOff octets)
  where
    IsCutOff : List ℕ → Type 0
    IsCutOff (high ∷ low ∷ value) = length value < two_octets high low
    IsCutOff _ = Unit {0}

-- the element at the front is of this type, which has no length and isn't known
abbrev pub IsUnknown : ℕ → List ℕ → Type 0
IsUnknown kind [] = ⊥
IsUnknown kind (first ∷ octets) = (first ≡ kind) × IsTrue (is_fixed kind) × (is_known_fixed kind ≡ false)

-- so many octets are elements, one after the other, and what follows them is faulty
pub record FaultyAt (Faulty : List ℕ → Type 0) (at : ℕ) (body : List ℕ) : Type 0 where
  pub elements : List Element
  pub front : List ℕ
  pub rest : List ℕ
  pub whole : body ≡ front ++ rest
  pub place : at ≡ length front
  pub spelled : SpellElements elements front
  pub faulty : Faulty rest

-- the first faulty element of a body
abbrev pub IsFirstFault : ElementFault → List ℕ → Type 0
IsFirstFault (Overrun at) body = FaultyAt RunsPast at body
IsFirstFault (UnknownFixed kind at) body = FaultyAt (IsUnknown kind) at body
