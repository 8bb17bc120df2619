-- The records of a packet, one after the other.
use Rattle.std.proofs.Common.{◌≡◌, ◌≢◌, ℕ, zero, suc, ◌-◌, ◌<◌, ◌==◌, Bool, true, false, cond, List, [], ◌∷◌, length, drop, Option, Some, None, is_some, slice_get, option_map, option_and_then, unwrap_or, refl, ap, sym, subst, ◌∙◌, arith}
use Rattle.std.proofs.lemmas.Bool.{eqb-false}
use Rattle.std.proofs.Math.Dec.{eqb-suc-zero}
use Rattle.std.proofs.lemmas.Option.{same_Some}
use Rattle.std.specs.Option.{option_map_or}
use Rattle.gtpp_header.specs.Header.{two_octets}
use Rattle.gtpp_message.specs.Packet.{IsPacket, PacketForm, behind, packet_of, PacketValue, Empty, Full, full_packet, is_empty_packet, nth_record, packet_in, packet_reading, record_at, records_at, records_in, stated_form}

some_one_more : (r : List ℕ) (more : Option (List (List ℕ))) → is_some more ≡ is_some (option_map (λ records. r ∷ records) more)
some_one_more r None = refl
some_one_more r (Some records) = refl

-- the rest begins with a record
pub one_behind : (count : ℕ) (octets r rest : List ℕ) → 0 < count → record_at octets ≡ Some (r, rest) →
    behind (count - 1) rest ≡ behind count octets
one_behind zero octets r rest some e = absurd (omega arith)
one_behind (suc count) octets r rest some e = let same : suc count - 1 ≡ count = omega arith in rw same (rw e refl)

-- the rest begins with no record
pub none_behind : (count : ℕ) (octets : List ℕ) → 0 < count → record_at octets ≡ None → behind count octets ≡ None
none_behind zero octets some e = absurd (omega arith)
none_behind (suc count) octets some e = rw e refl

-- nothing but the end is no record
records_end : (octets : List ℕ) → is_some (records_at 0 octets) ≡ (length octets == 0)
records_end [] = refl
records_end (octet ∷ octets) = sym (eqb-suc-zero (length octets))

-- so many records are all where nothing follows them
pub are_records : (count : ℕ) (octets : List ℕ) →
    is_some (records_at count octets) ≡ option_map_or (λ rest. length rest == 0) (behind count octets) false
are_records zero octets = records_end octets
are_records (suc count) octets =
    elim (record_at octets) as (λ found. is_some (option_and_then (λ (parts : List ℕ × List ℕ). option_map (λ records. parts.0 ∷ records) (records_at count parts.1)) found)
    ≡ option_map_or (λ rest. length rest == 0) (option_and_then (λ (parts : List ℕ × List ℕ). behind count parts.1) found) false)
    [ None ↦ refl | Some parts ↦ sym (some_one_more parts.0 (records_at count parts.1)) ∙ are_records count parts.1 ]

-- the k-th record stands behind k others
pub nth_behind_k : (k : ℕ) (octets : List ℕ) →
    nth_record k octets ≡ option_and_then (λ rest. option_map (λ (parts : List ℕ × List ℕ). parts.0) (record_at rest)) (behind k octets)
nth_behind_k zero octets = refl
nth_behind_k (suc k) octets =
    elim (record_at octets) as (λ found. option_and_then (λ (parts : List ℕ × List ℕ). nth_record k parts.1) found
    ≡ option_and_then (λ rest. option_map (λ (parts : List ℕ × List ℕ). parts.0) (record_at rest)) (option_and_then (λ (parts : List ℕ × List ℕ). behind k parts.1) found))
    [ None ↦ refl | Some parts ↦ nth_behind_k k parts.1 ]

some_inside : (more : Option (List (List ℕ))) (r : List ℕ) → is_some (option_map (λ records. r ∷ records) more) ≡ true → is_some more ≡ true
some_inside None r e = cc
some_inside (Some records) r e = refl

nth_behind : (count : ℕ) (there : (octets : List ℕ) (k : ℕ) → is_some (records_at count octets) ≡ true → k < count → is_some (nth_record k octets) ≡ true)
    (octets : List ℕ) (k : ℕ) (found : Option (List ℕ × List ℕ)) → record_at octets ≡ found →
    is_some (option_and_then (λ (parts : List ℕ × List ℕ). option_map (λ records. parts.0 ∷ records) (records_at count parts.1)) found) ≡ true → k < suc count →
    is_some (nth_record k octets) ≡ true
nth_behind count there octets k None is e below = cc
nth_behind count there octets zero (Some parts) is e below = rw is refl
nth_behind count there octets (suc k) (Some parts) is e below =
    rw is (there parts.1 k (some_inside (records_at count parts.1) parts.0 e) (omega arith))

-- each of so many records is there
nth_there : (count : ℕ) (octets : List ℕ) (k : ℕ) → is_some (records_at count octets) ≡ true → k < count → is_some (nth_record k octets) ≡ true
nth_there zero octets k e below = absurd (omega arith)
nth_there (suc count) octets k e below = nth_behind count (nth_there count) octets k (record_at octets) refl e below

-- the k-th record, where the first was read
abbrev nth_behind_of : ℕ → Option (List ℕ × List ℕ) → Option (List ℕ)
nth_behind_of zero found = option_map (λ (parts : List ℕ × List ℕ). parts.0) found
nth_behind_of (suc k) found = option_and_then (λ (parts : List ℕ × List ℕ). nth_record k parts.1) found

nth_of_behind : (k : ℕ) (octets : List ℕ) → nth_record k octets ≡ nth_behind_of k (record_at octets)
nth_of_behind zero octets = refl
nth_of_behind (suc k) octets = refl

one_more : (more : Option (List (List ℕ))) (r : List ℕ) (records : List (List ℕ)) → option_map (λ rs. r ∷ rs) more ≡ Some records →
    (rs : List (List ℕ)) × (more ≡ Some rs) × (r ∷ rs ≡ records)
one_more None r records e = cc
one_more (Some rs) r records e = (rs, refl, cc)

some_same : (a b : List ℕ) → ◌≡◌ {A = Option (List ℕ)} (Some a) (Some b) → a ≡ b
some_same a b e = cc

among_behind : (count : ℕ)
    (among : (octets : List ℕ) (records : List (List ℕ)) (k : ℕ) (part : List ℕ) → records_at count octets ≡ Some records → k < count → nth_record k octets ≡ Some part → slice_get records k ≡ Some part)
    (found : Option (List ℕ × List ℕ)) (records : List (List ℕ)) (k : ℕ) (part : List ℕ) →
    option_and_then (λ (parts : List ℕ × List ℕ). option_map (λ rs. parts.0 ∷ rs) (records_at count parts.1)) found ≡ Some records → k < suc count →
    nth_behind_of k found ≡ Some part → slice_get records k ≡ Some part
among_behind count among None records k part e below nth = cc
among_behind count among (Some parts) records zero part e below nth =
    let more = one_more (records_at count parts.1) parts.0 records e in
    ap (λ (rs : List (List ℕ)). slice_get rs 0) (sym more.2) ∙ nth
among_behind count among (Some parts) records (suc k) part e below nth =
    let more = one_more (records_at count parts.1) parts.0 records e in
    ap (λ (rs : List (List ℕ)). slice_get rs (suc k)) (sym more.2) ∙ among parts.1 more.0 k part more.1 (omega arith) nth

-- the k-th of the records that were read is the k-th that stands there
nth_among : (count : ℕ) (octets : List ℕ) (records : List (List ℕ)) (k : ℕ) (part : List ℕ) →
    records_at count octets ≡ Some records → k < count → nth_record k octets ≡ Some part → slice_get records k ≡ Some part
nth_among zero octets records k part e below nth = absurd (omega arith)
nth_among (suc count) octets records k part e below nth = among_behind count (nth_among count) (record_at octets) records k part e below (sym (nth_of_behind k octets) ∙ nth)

-- as many records as are asked for
abbrev IsOfLength : ℕ → Option (List (List ℕ)) → Type 0
IsOfLength count None = Unit {0}
IsOfLength count (Some records) = length records ≡ count

one_longer : (count : ℕ) (r : List ℕ) (more : Option (List (List ℕ))) → IsOfLength count more → IsOfLength (suc count) (option_map (λ records. r ∷ records) more)
one_longer count r None h = tt
one_longer count r (Some more) h = omega (arith, h)

records_length : (count : ℕ) (octets : List ℕ) → IsOfLength count (records_at count octets)
records_length zero [] = refl
records_length zero (x ∷ xs) = tt
records_length (suc count) octets =
    elim (record_at octets) as (λ parts. IsOfLength (suc count) (option_and_then (λ p. option_map (λ records. p.0 ∷ records) (records_at count p.1)) parts))
    [ None ↦ tt | Some p ↦ one_longer count p.0 (records_at count p.1) (records_length count p.1) ]

-- The packet that is stated with a value.

-- so many records stand behind the number, the format and the version
pub record IsCounted (count : ℕ) (octets : List ℕ) : Type 0 where
  pub there : is_some (records_at count octets) ≡ true
  pub read : records_at count octets ≡ Some (records_in count octets)
  pub so_many : length (records_in count octets) ≡ count

counted_some : (count : ℕ) (octets : List ℕ) (found : Option (List (List ℕ))) → records_at count octets ≡ found → IsOfLength count found → 0 < length (unwrap_or found []) →
    (is_some found ≡ true) × (found ≡ Some (unwrap_or found [])) × (length (unwrap_or found []) ≡ count)
counted_some count octets None is length some = absurd (omega arith)
counted_some count octets (Some records) is length some = (refl, refl, length)

counted_in : (count : ℕ) (octets : List ℕ) → 0 < length (records_in count octets) → IsCounted count octets
counted_in count octets some =
    let facts = counted_some count octets (records_at count octets) refl (records_length count octets) some in
    record { there = facts.0; read = facts.1; so_many = facts.2 }

-- the packet that is read of so many records has one
form_some : (count format version : ℕ) (octets : List ℕ) (form : PacketForm) → packet_in count format version octets ≡ Some form → 0 < length form.records
form_some count format version octets form e = by_test (count == 0) refl (records_at count octets) (records_length count octets) e
  where
    by_test : (none : Bool) → (count == 0) ≡ none → (records : Option (List (List ℕ))) → IsOfLength count records →
        cond none None (option_map (λ (rs : List (List ℕ)). let p : PacketForm = record { format = format; version = version; records = rs } in p) records) ≡ Some form → 0 < length form.records
    by_test true is records of e = cc
    by_test false is None of e = cc
    by_test false is (Some records) of e =
        let stated : PacketForm = record { format = format; version = version; records = records } in
        let same : stated ≡ form = same_Some stated form e in
        let some : count ≢ 0 = eqb-false count 0 is in
        omega (arith, of, ap (λ (p : PacketForm). length p.records) same, some)

packet_some : (value : List ℕ) (form : PacketForm) → packet_of value ≡ Some form → 0 < length form.records
packet_some (a ∷ b ∷ c ∷ d ∷ octets) form e = form_some a b (two_octets c d) octets form e
packet_some _ form e = cc

-- a packet whose value says what it states has as many records as it says
pub packet_counted : (count format version : ℕ) (value : List ℕ) → packet_of value ≡ Some (stated_form count format version value) → IsCounted count (drop 4 value)
packet_counted count format version value e = counted_in count (drop 4 value) (packet_some value (stated_form count format version value) e)

-- each record of a packet is there, and is the k-th
pub part_there : (count format version : ℕ) (value : List ℕ) (k : ℕ) → packet_of value ≡ Some (stated_form count format version value) →
    k < length (records_in count (drop 4 value)) → is_some (nth_record k (drop 4 value)) ≡ true
part_there count format version value k e below =
    let counted = packet_counted count format version value e in
    nth_there count (drop 4 value) k counted.there (omega (arith, counted.so_many, below))

pub part_is : (count format version : ℕ) (value octets : List ℕ) (k : ℕ) (part : List ℕ) → packet_of value ≡ Some (stated_form count format version value) →
    k < length (records_in count (drop 4 value)) → Some part ≡ nth_record k octets → octets ≡ drop 4 value → slice_get (records_in count (drop 4 value)) k ≡ Some part
part_is count format version value octets k part e below nth same =
    let counted = packet_counted count format version value e in
    nth_among count (drop 4 value) (records_in count (drop 4 value)) k part counted.read (omega (arith, counted.so_many, below))
    (sym (nth ∙ ap (nth_record k) same))

-- a record that is there is found
pub no_part : (k : ℕ) (records octets : List ℕ) → is_some (nth_record k records) ≡ true → None ≡ nth_record k octets → octets ≡ records → ⊥
no_part k records octets there none same =
    let never : false ≡ true = ap is_some none ∙ ap (λ (o : List ℕ). is_some (nth_record k o)) same ∙ there in cc

-- What is read.

by_emptiness : (empty : Bool) (full : Option PacketValue) (form : PacketForm) (value : List ℕ) →
    cond empty (Some Empty) full ≡ Some (Full form value) → full ≡ Some (Full form value)
by_emptiness true full form value e = cc
by_emptiness false full form value e = e

full_inside : (found : Option PacketForm) (spells : List ℕ) (form : PacketForm) (value : List ℕ) →
    option_map (λ (f : PacketForm). Full f spells) found ≡ Some (Full form value) → (found ≡ Some form) × (spells ≡ value)
full_inside None spells form value e = cc
full_inside (Some f) spells form value e =
    let same : f ≡ form = cc in
    let spelled : spells ≡ value = cc in
    (ap Some same, spelled)

-- a full packet that a value spells is read of it
pub full_read : (form : PacketForm) (value spells : List ℕ) → packet_reading spells ≡ Some (Full form value) → (packet_of spells ≡ Some form) × (spells ≡ value)
full_read form value spells e = full_inside (packet_of spells) spells form value (by_emptiness (is_empty_packet spells) (full_packet spells) form value e)

-- a packet that a value spells says what its value says
pub is_packet : (packet : PacketValue) (spells : List ℕ) → packet_reading spells ≡ Some packet → IsPacket packet
is_packet Empty spells e = tt
is_packet (Full form value) spells e =
    let read = full_read form value spells e in subst (λ (v : List ℕ). packet_of v ≡ Some form) read.1 read.0

-- the value of a full packet isn't of the empty one
not_in : (count format version : ℕ) (octets : List ℕ) (form : PacketForm) → packet_in count format version octets ≡ Some form → (count == 0) ≡ false
not_in count format version octets form e = by_test (count == 0) (records_at count octets) e
  where
    by_test : (none : Bool) (records : Option (List (List ℕ))) →
        cond none None (option_map (λ (rs : List (List ℕ)). let p : PacketForm = record { format = format; version = version; records = rs } in p) records) ≡ Some form → none ≡ false
    by_test true records e = cc
    by_test false records e = refl

not_empty : (value : List ℕ) (form : PacketForm) → packet_of value ≡ Some form → is_empty_packet value ≡ false
not_empty (a ∷ b ∷ c ∷ d ∷ []) form e = not_in a b (two_octets c d) [] form e
not_empty (a ∷ b ∷ c ∷ d ∷ octet ∷ octets) form e = refl
not_empty _ form e = cc

-- a packet is read of its value
pub packet_back : (form : PacketForm) (value : List ℕ) → packet_of value ≡ Some form → packet_reading value ≡ Some (Full form value)
packet_back form value e =
    ap (λ (b : Bool). cond b (Some Empty) (full_packet value)) (not_empty value form e) ∙ ap (option_map (λ (f : PacketForm). Full f value)) e
