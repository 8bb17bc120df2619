-- The information elements of GTP' (3GPP TS 32.295, clause 6.2). One whose type has bit 8 clear is the type and a value of
-- a fixed number of octets, which the receiver has to know. One whose type has bit 8 set is the type, the length of the
-- value in two octets, and the value.
use Rattle.std.specs.Prelude.{◌≡◌, ℕ, ◌/◌, ◌%◌, ◌≤◌, ◌==◌, Bool, false, not, IsTrue, nat_lt, if◌then◌else◌, MatchBool, ◌⊎◌, List, [], ◌∷◌, ◌++◌, length, option_map, Option}
use Rattle.std.specs.List.{find, flat_map}
use Rattle.std.specs.Option.{option_map_or}
use Rattle.case_table.specs.Rows.{has_key}
use Rattle.case_table.specs.declared.Row.{Row}
use Rattle.gtpp_header.specs.Header.{two_octets}
use Rattle.gtpp_elements.specs.declared.element_types.TheConstants.{CANCELLED, CAUSE, COMMAND, NODE_ADDRESS, PACKET, PRIVATE, RECOMMENDED, RECOVERY, RELEASED, RESPONDED}

-- an element: its type, and the octets of its value
pub record Element : Type 0 where
  pub kind : ℕ
  pub value : List ℕ

-- the value of an element of this type has a fixed number of octets
abbrev pub is_fixed : ℕ → Bool
is_fixed kind = nat_lt kind 128

-- The rows of the table of elements. One whose value has a fixed number of octets, and one that states its length.
abbrev pub fixed : ℕ → ℕ → Row
fixed kind octets = record { key = kind; value = octets; mark = 0 }

abbrev pub stated : ℕ → Row
stated kind = record { key = kind; value = 0; mark = 0 }

-- the elements that are used here: each that states no length has one octet
abbrev pub element_rows : List Row
element_rows =
    fixed CAUSE 1 ∷ fixed RECOVERY 1 ∷ fixed COMMAND 1
    ∷ stated RELEASED ∷ stated CANCELLED ∷ stated NODE_ADDRESS ∷ stated PACKET
    ∷ stated RESPONDED ∷ stated RECOMMENDED ∷ stated PRIVATE ∷ []

-- an element of this type has a value of a known fixed length
abbrev pub is_known_fixed : ℕ → Bool
is_known_fixed kind = option_map_or (λ row. not (row.value == 0)) (find (has_key kind) element_rows) false

-- the element has this type
abbrev pub has_kind : ℕ → Element → Bool
has_kind kind element = element.kind == kind

-- the value of the first element of this type
abbrev pub first_value : ℕ → List Element → Option (List ℕ)
first_value kind elements = option_map (λ element. element.value) (find (has_kind kind) elements)

-- the octets are an element of a known fixed length
pub record SpellsFixed (element : Element) (octets : List ℕ) : Type 0 where
  pub octet : ℕ
  pub fixed : IsTrue (is_fixed element.kind)
  pub known : IsTrue (is_known_fixed element.kind)
  pub value : element.value ≡ octet ∷ []
  pub spelled : octets ≡ element.kind ∷ octet ∷ []

-- the octets are an element behind its length
pub record SpellsSized (element : Element) (octets : List ℕ) : Type 0 where
  pub high : ℕ
  pub low : ℕ
  pub sized : is_fixed element.kind ≡ false
  pub stated : length element.value ≡ two_octets high low
  pub spelled : octets ≡ element.kind ∷ high ∷ low ∷ element.value

-- the octets are the element
abbrev pub SpellsElement : Element → List ℕ → Type 0
SpellsElement element octets = SpellsFixed element octets ⊎ SpellsSized element octets

-- the octets are these elements, one after the other
abbrev pub SpellElements : List Element → List ℕ → Type 0
SpellElements [] octets = octets ≡ []
SpellElements (element ∷ elements) octets =
    (front : List ℕ) × (rest : List ℕ) × (octets ≡ front ++ rest) × SpellsElement element front × SpellElements elements rest

-- the value may stand in an element of this type
abbrev pub IsValue : ℕ → List ℕ → Type 0
IsValue kind value = MatchBool (is_fixed kind) (length value ≡ 1) (length value ≤ 65535)

-- the octets of an element as it is sent
abbrev pub element_octets : ℕ → List ℕ → List ℕ
element_octets kind value =
    if is_fixed kind then kind ∷ value
    else kind ∷ length value / 256 ∷ length value % 256 ∷ value

-- the octets of elements as they are sent
abbrev pub octets_of : List Element → List ℕ
octets_of elements = flat_map (λ element. element_octets element.kind element.value) elements

-- the element may be sent: its type is known where it has no length, and the value is as long as the type lets it be
abbrev pub IsSendable : Element → Type 0
IsSendable element =
    MatchBool (is_fixed element.kind) (IsTrue (is_known_fixed element.kind) × (length element.value ≡ 1)) (length element.value ≤ 65535)

abbrev pub AreSendable : List Element → Type 0
AreSendable [] = Unit {0}
AreSendable (element ∷ elements) = IsSendable element × AreSendable elements
