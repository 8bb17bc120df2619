-- The value of a Data Record Packet (3GPP TS 32.295, clause 6.2.4.5).
use Rattle.std.specs.Prelude.{◌≡◌, ℕ, zero, suc, ◌≤◌, ◌==◌, Bool, true, false, nat_lt, if◌then◌else◌, List, [], ◌∷◌, ◌++◌, length, take, drop, Option, Some, None, option_map, option_and_then, unwrap_or}
use Rattle.std.specs.Borrow.{Bor}
use Rattle.gtpp_header.specs.Header.{two_octets}

-- a packet that isn't empty: its data record format, the version of that format, and its records
pub record PacketForm : Type 0 where
  pub format : ℕ
  pub version : ℕ
  pub records : List (List ℕ)

-- the record at the front, behind its length in two octets, and what follows it
abbrev pub record_at : List ℕ → Option (List ℕ × List ℕ)
record_at (high ∷ low ∷ rest) =
    if nat_lt (length rest) (two_octets high low) then None else Some (take (two_octets high low) rest, drop (two_octets high low) rest)
record_at _ = None

-- what follows so many records
abbrev pub behind : ℕ → List ℕ → Option (List ℕ)
behind zero octets = Some octets
behind (suc count) octets = option_and_then (λ parts. behind count parts.1) (record_at octets)

-- so many records, with nothing behind the last
abbrev pub records_at : ℕ → List ℕ → Option (List (List ℕ))
records_at zero [] = Some []
records_at zero (x ∷ xs) = None
records_at (suc count) octets = option_and_then (λ parts. option_map (λ records. parts.0 ∷ records) (records_at count parts.1)) (record_at octets)

-- the packet of so many records, at least 1, which these octets spell
abbrev pub packet_in : ℕ → ℕ → ℕ → List ℕ → Option PacketForm
packet_in count format version octets =
    if count == 0 then None
    else option_map (λ records. record { format = format; version = version; records = records }) (records_at count octets)

-- the packet that a value spells: the number of its records, its format and version, and then its records
abbrev pub packet_of : List ℕ → Option PacketForm
packet_of (count ∷ format ∷ version_high ∷ version_low ∷ octets) = packet_in count format (two_octets version_high version_low) octets
packet_of _ = None

-- two lists that the code lends
abbrev pub lent_parts : (Bor (List ℕ) × Bor (List ℕ)) → List ℕ × List ℕ
lent_parts parts = (parts.0.now, parts.1.now)

-- what a packet says: that it has no records, or its format, version and records, and the whole value
pub data PacketValue : Type 0 where
  Empty : PacketValue
  Full : (form : PacketForm) (value : List ℕ) → PacketValue

-- the value is of the empty packet: no octets, or no records with or without a format and its version
abbrev pub is_empty_packet : List ℕ → Bool
is_empty_packet [] = true
is_empty_packet (count ∷ []) = count == 0
is_empty_packet (count ∷ format ∷ version_high ∷ version_low ∷ []) = count == 0
is_empty_packet _ = false

-- what a value says where it isn't of the empty packet
abbrev pub full_packet : List ℕ → Option PacketValue
full_packet value = option_map (λ form. Full form value) (packet_of value)

-- what a value says
abbrev pub packet_reading : List ℕ → Option PacketValue
packet_reading value = if is_empty_packet value then Some Empty else full_packet value

-- the k-th of the records that stand one after the other, counted from 0
abbrev pub nth_record : ℕ → List ℕ → Option (List ℕ)
nth_record zero octets = option_map (λ parts. parts.0) (record_at octets)
nth_record (suc k) octets = option_and_then (λ parts. nth_record k parts.1) (record_at octets)

-- the value of the packet says what the packet says
abbrev pub IsPacket : PacketValue → Type 0
IsPacket Empty = Unit {0}
IsPacket (Full form value) = packet_of value ≡ Some form

-- how many records the packet has
abbrev pub count_of : PacketValue → ℕ
count_of Empty = 0
count_of (Full form value) = length form.records

-- the records of a packet
abbrev pub packet_records : PacketValue → List (List ℕ)
packet_records Empty = []
packet_records (Full form value) = form.records

-- so many records, none where the octets aren't so many
abbrev pub records_in : ℕ → List ℕ → List (List ℕ)
records_in count octets = unwrap_or (records_at count octets) []

-- the packet that is stated with a value: so many records behind the number, the format and the version
abbrev pub stated_form : ℕ → ℕ → ℕ → List ℕ → PacketForm
stated_form count format version value = record { format = format; version = version; records = records_in count (drop 4 value) }

-- the octets are a record behind its length in two octets, and what follows it
pub record SpellsRecord (first rest octets : List ℕ) : Type 0 where
  pub high : ℕ
  pub low : ℕ
  pub stated : length first ≡ two_octets high low
  pub whole : octets ≡ high ∷ low ∷ (first ++ rest)

-- the octets are these records, one after the other
abbrev pub SpellRecords : List (List ℕ) → List ℕ → Type 0
SpellRecords [] octets = octets ≡ []
SpellRecords (first ∷ records) octets = (rest : List ℕ) × SpellsRecord first rest octets × SpellRecords records rest

-- the octets are the empty packet: none, the number 0, or it with a format and its version
abbrev pub SpellsEmpty : List ℕ → Type 0
SpellsEmpty [] = Unit {0}
SpellsEmpty (count ∷ []) = count ≡ 0
SpellsEmpty (count ∷ format ∷ version_high ∷ version_low ∷ []) = count ≡ 0
SpellsEmpty _ = ⊥

-- the octets are the number of the records, of which there is one, their format and its version, and the records
pub record SpellsForm (form : PacketForm) (value : List ℕ) : Type 0 where
  pub version_high : ℕ
  pub version_low : ℕ
  pub octets : List ℕ
  pub some : 1 ≤ length form.records
  pub version : form.version ≡ two_octets version_high version_low
  pub whole : value ≡ length form.records ∷ form.format ∷ version_high ∷ version_low ∷ octets
  pub records : SpellRecords form.records octets

-- the octets are the packet
abbrev pub SpellsPacket : PacketValue → List ℕ → Type 0
SpellsPacket Empty value = SpellsEmpty value
SpellsPacket (Full form octets) value = (octets ≡ value) × SpellsForm form value

-- the value of a packet as it is sent: the empty one has no octets
abbrev pub packet_octets : PacketValue → List ℕ
packet_octets Empty = []
packet_octets (Full form value) = value
