-- A packet that is built record by record.
use Rattle.std.specs.Prelude.{◌≡◌, ℕ, ◌+◌, ◌/◌, ◌%◌, ◌≤◌, ◌<◌, ◌==◌, nat_lt, All, Bool, if◌then◌else◌, List, [], ◌∷◌, length, drop, Option, Some, None, Result, Ok, Err}
use Rattle.gw_base.specs.declared.tag.Tag.{Tag}
use Rattle.ber_frame.specs.Checked.{checked}
use Rattle.ber_frame.specs.declared.fault.BerFault.{BerFault}
use Rattle.gtpp_message.specs.Packet.{PacketForm, PacketValue, Empty, Full, records_in}
use Rattle.gtpp_message.specs.PacketWriting.{record_octets, value_of, with_record, with_record_octets}
use Rattle.node_core.specs.declared.fault.DraftFault.{DraftFault}
use Rattle.node_core.specs.declared.fault.DraftFault.TheVariants.{Count, TooBig, Ber, NoMemory}

-- a packet without records
abbrev pub packet_anew : ℕ → ℕ → PacketForm
packet_anew format version = record { format = format; version = version; records = [] }

-- what a packet sends: it is the empty one where it has no records
abbrev pub packet_of_records : List (List ℕ) → PacketForm → PacketValue
packet_of_records [] form = Empty
packet_of_records (first ∷ records) form = Full form (value_of form)

abbrev pub packet_of_form : PacketForm → PacketValue
packet_of_form form = packet_of_records form.records form

abbrev pub is_without_records : PacketForm → Bool
is_without_records form = length form.records == 0

-- the octets of the value, none without records
abbrev pub value_octets_of : List (List ℕ) → PacketForm → List ℕ
value_octets_of [] form = []
value_octets_of (first ∷ records) form = value_of form

abbrev pub value_octets : PacketForm → List ℕ
value_octets form = value_octets_of form.records form

-- ---- one more record

-- the most records of a packet; the most octets of a datagram; the format of records in ASN.1's Basic Encoding Rules
abbrev pub most_records : ℕ
most_records = 255

abbrev pub most_datagram_octets : ℕ
most_datagram_octets = 65507

abbrev pub ber_format : ℕ
ber_format = 1

-- The octets of the request that sends a packet: its header has 6, the Packet Transfer Command 2, and 3 stand in
-- front of the packet's value.
abbrev pub request_length : PacketForm → ℕ
request_length form = 6 + 2 + 3 + length (value_octets form)

-- why octets that are checked aren't one BER value
abbrev pub ber_fault_of : Result Tag BerFault → Option DraftFault
ber_fault_of (Ok tag) = None
ber_fault_of (Err fault) = Some (Ber fault)

abbrev pub ber_refusal : ℕ → List ℕ → Option DraftFault
ber_refusal format octets = if format == ber_format then ber_fault_of (checked octets) else None

-- why a record isn't added to a packet, by the first of these that holds
abbrev pub addition_fault : PacketForm → List ℕ → Option DraftFault
addition_fault form octets =
    if length form.records == most_records then Some Count
    else if nat_lt most_datagram_octets (request_length (with_record form octets)) then Some TooBig
    else ber_refusal form.format octets

-- a fault that isn't want of memory, which comes without a reason
abbrev pub addition_fault_of : DraftFault → Option DraftFault
addition_fault_of Count = Some Count
addition_fault_of TooBig = Some TooBig
addition_fault_of (Ber fault) = Some (Ber fault)
addition_fault_of NoMemory = None

-- ---- the octets that a draft keeps (steps of the proof)

-- the records among the octets of a value
abbrev pub records_among : List ℕ → List (List ℕ)
records_among [] = []
records_among (count ∷ octets) = records_in count (drop 4 (count ∷ octets))

-- the packet of this format and version with the records among these octets
abbrev pub form_in : ℕ → ℕ → List ℕ → PacketForm
form_in format version octets = record { format = format; version = version; records = records_among octets }

-- the number of records that the first octet states
abbrev pub stated_records : List ℕ → ℕ
stated_records [] = 0
stated_records (count ∷ octets) = count

-- the octets of a value with one more record
abbrev pub grown : ℕ → ℕ → List ℕ → List ℕ → List ℕ
grown format version [] more = 1 ∷ format ∷ version / 256 ∷ version % 256 ∷ record_octets more
grown format version (count ∷ octets) more = with_record_octets (count ∷ octets) more

-- how many they are
abbrev pub grown_length : List ℕ → ℕ → ℕ
grown_length [] more = 6 + more
grown_length (count ∷ octets) more = length (count ∷ octets) + 2 + more

-- why a record isn't added to the octets of a value
abbrev pub kept_fault : ℕ → List ℕ → List ℕ → Option DraftFault
kept_fault format octets more =
    if stated_records octets == most_records then Some Count
    else if nat_lt 65496 (grown_length octets (length more)) then Some TooBig
    else ber_refusal format more

-- the octets are the value of the packet, and fit a request
pub record IsDraft (format version : ℕ) (octets : List ℕ) : Type 0 where
  pub format_fits : format < 256
  pub version_fits : version < 65536
  pub octets_are : octets ≡ value_octets (form_in format version octets)
  pub few : length (records_among octets) ≤ 255
  pub short_records : All (λ more. length more < 65536) (records_among octets)
  pub short : length octets ≤ 65496
