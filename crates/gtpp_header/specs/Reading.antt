-- The order in which the octets of a header are tested. The first condition that holds decides, and
-- where none holds the header is read.
use Rattle.std.specs.Prelude.{◌≡◌, ◌≢◌, ℕ, ◌<◌, List, ◌∷◌, length, Result, Ok, Err, nat_lt, ◌==◌, not, if◌then◌else◌}
use Rattle.gtpp_header.specs.declared.Header.{Header}
use Rattle.gtpp_header.specs.declared.fault.HeadFault.{HeadFault}
use Rattle.gtpp_header.specs.declared.fault.HeadFault.TheVariants.{Short, NotPrime, Version, Cut}
use Rattle.gtpp_header.specs.Header.{IsFirstOctet, protocol_type_of, two_octets, version_of}

-- what is read of the octets
abbrev pub header_reading : List ℕ → Result Header HeadFault
header_reading (flags ∷ kind ∷ length_high ∷ length_low ∷ number_high ∷ number_low ∷ rest) =
    let stated = two_octets length_high length_low in
    let number = two_octets number_high number_low in
    if protocol_type_of flags == 1 then Err NotPrime
    else if not (version_of flags == 2) then Err (Version (version_of flags) kind number)
    else if nat_lt (length rest) stated then Err (Cut stated)
    else Ok (record { kind = kind; length = stated; number = number })
header_reading _ = Err Short

-- there are fewer octets than a header has
abbrev pub IsShort : List ℕ → Type 0
IsShort octets = length octets < 6

-- the protocol type of the header is GTP
abbrev pub IsNotPrime : List ℕ → Type 0
IsNotPrime (flags ∷ kind ∷ length_high ∷ length_low ∷ number_high ∷ number_low ∷ rest) =
    protocol_type_of flags ≡ 1
IsNotPrime _ = ⊥

-- the header is of this version of GTP', which isn't 2, and has this type and sequence number
abbrev pub IsOtherVersion : ℕ → ℕ → ℕ → List ℕ → Type 0
IsOtherVersion version kind number (flags ∷ kind' ∷ length_high ∷ length_low ∷ number_high ∷ number_low ∷ rest) =
    (protocol_type_of flags ≡ 0)
    × (version ≡ version_of flags)
    × (version ≢ 2)
    × (kind ≡ kind')
    × (number ≡ two_octets number_high number_low)
IsOtherVersion version kind number _ = ⊥

-- fewer octets follow the header of version 2 than its length says
abbrev pub IsCut : ℕ → List ℕ → Type 0
IsCut stated (flags ∷ kind ∷ length_high ∷ length_low ∷ number_high ∷ number_low ∷ rest) =
    IsFirstOctet flags
    × (stated ≡ two_octets length_high length_low)
    × (length rest < stated)
IsCut stated _ = ⊥

-- the answer stays, whatever octets come behind
abbrev pub IsFinal : Result Header HeadFault → Type 0
IsFinal (Ok header) = Unit {0}
IsFinal (Err Short) = ⊥
IsFinal (Err NotPrime) = Unit {0}
IsFinal (Err (Version version kind number)) = Unit {0}
IsFinal (Err (Cut stated)) = ⊥
