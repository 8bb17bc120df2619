-- The value of a Data Record Packet as it is written from its records (3GPP TS 32.295, clause 6.2.4.5).
use Rattle.std.specs.Prelude.{ℕ, suc, ◌/◌, ◌%◌, ◌≤◌, ◌<◌, All, List, [], ◌∷◌, ◌++◌, length}
use Rattle.std.specs.List.{flat_map}
use Rattle.gtpp_message.specs.Packet.{PacketForm}

-- a record behind its length in two octets
abbrev pub record_octets : List ℕ → List ℕ
record_octets octets = length octets / 256 ∷ length octets % 256 ∷ octets

-- the number of records, their format and its version, and the records
abbrev pub value_of : PacketForm → List ℕ
value_of form = length form.records ∷ form.format ∷ form.version / 256 ∷ form.version % 256 ∷ flat_map record_octets form.records

-- the packet can be written: each number has room in its octets, and there is a record at least
pub record IsForm (form : PacketForm) : Type 0 where
  pub some : 1 ≤ length form.records
  pub most : length form.records ≤ 255
  pub format : form.format < 256
  pub version : form.version < 65536
  pub short : All (λ octets. length octets < 65536) form.records

-- the packet with one more record
abbrev pub with_record : PacketForm → List ℕ → PacketForm
with_record form octets = record form { records = form.records ++ octets ∷ [] }

-- what one more record makes of a value: the number in the first octet rises, and the record's octets are appended
abbrev pub with_record_octets : List ℕ → List ℕ → List ℕ
with_record_octets (count ∷ rest) octets = suc count ∷ (rest ++ record_octets octets)
with_record_octets [] octets = []
