-- The header of a GTP' message (3GPP TS 32.295, clause 6.1). The standard counts octets from 1, and the
-- bits of an octet from 8, the highest, down to 1.
use Rattle.std.specs.Prelude.{◌≡◌, ℕ, ◌+◌, ◌-◌, ◌*◌, ◌/◌, ◌%◌, ◌^◌, ◌≤◌, List, [], ◌∷◌, length}
use Rattle.gtpp_header.specs.declared.Header.{Header}

-- the number in the bits from high down to low of an octet
abbrev pub bits : ℕ → ℕ → ℕ → ℕ
bits high low octet = octet / 2 ^ (low - 1) % 2 ^ (high - low + 1)

-- what octet 1 names as the version
abbrev pub version_of : ℕ → ℕ
version_of flags = bits 8 6 flags

-- what octet 1 names as the protocol type: 0 for GTP', 1 for GTP
abbrev pub protocol_type_of : ℕ → ℕ
protocol_type_of flags = bits 5 5 flags

-- the number that two octets spell
abbrev pub two_octets : ℕ → ℕ → ℕ
two_octets high low = 256 * high + low

-- octet 1 of version 2 of GTP', whatever its bits 4 to 1
pub record IsFirstOctet (flags : ℕ) : Type 0 where
  pub protocol_type : protocol_type_of flags ≡ 0
  pub version : version_of flags ≡ 2

-- The octets spell the header, and a payload that is as long as it says. Octets behind the payload
-- mean nothing.
abbrev pub SpellsHeader : Header → List ℕ → Type 0
SpellsHeader header (flags ∷ kind ∷ length_high ∷ length_low ∷ number_high ∷ number_low ∷ rest) =
    IsFirstOctet flags
    × (header.kind ≡ kind)
    × (header.length ≡ two_octets length_high length_low)
    × (header.number ≡ two_octets number_high number_low)
    × (header.length ≤ length rest)
SpellsHeader header _ = ⊥

-- the octets are one message, from its header to the end of its payload
abbrev pub IsWholeMessage : List ℕ → Type 0
IsWholeMessage octets = (header : Header) × SpellsHeader header octets × (length octets ≡ 6 + header.length)

-- octet 1 as it is sent: version 2, protocol type 0, the spare bits 4 to 2 set, and bit 1 clear
abbrev pub sent_flags : ℕ
sent_flags = 2 * 2 ^ 5 + 0 * 2 ^ 4 + 7 * 2 ^ 1 + 0

-- the six octets of the header as it is sent
abbrev pub spelled : Header → List ℕ
spelled header =
    sent_flags ∷ header.kind
    ∷ header.length / 256 ∷ header.length % 256
    ∷ header.number / 256 ∷ header.number % 256 ∷ []
