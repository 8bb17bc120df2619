-- A draft's octets with one more record are the value of the packet with that record.
use Rattle.std.proofs.Common.{◌≡◌, ℕ, ◌+◌, ◌≤◌, ◌<◌, nat_lt, List, [], ◌∷◌, ◌++◌, length, Some, None, refl, ap, sym, ◌∙◌, arith, length-append}
use Rattle.node_core.proofs.Names.{All, All-append, All-cons, All-nil, append-nil, eqb-false, ltb-false, ltb-true, ltb_from_iff, nat_tests, packet_of, PacketForm}
use Rattle.gtpp_message.specs.PacketWriting.{IsForm, record_octets, value_of, with_record, with_record_octets}
use Rattle.node_core.specs.Drafts.{IsDraft, addition_fault, form_in, grown, grown_length, kept_fault, records_among, request_length, stated_records, value_octets, value_octets_of}

-- what a law of the packets says: a packet that is written is read back, and one more record is appended to its value
abbrev pub ReadsBack : Type 0
ReadsBack = (form : PacketForm) → IsForm form → packet_of (value_of form) ≡ Some form

abbrev pub Grows : Type 0
Grows = (form : PacketForm) (octets : List ℕ) → value_of (with_record form octets) ≡ with_record_octets (value_of form) octets

-- ---- what is read of a value

pub stated : (format version : ℕ) (octets : List ℕ) → IsDraft format version octets → stated_records octets ≡ length (records_among octets)
stated format version octets draft = grind (arith, nat_tests)

back : (form : PacketForm) → packet_of (value_of form) ≡ Some form → records_among (value_of form) ≡ form.records
back form e = search (arith, nat_tests, form.records)

-- ---- one more record

grown_value : Grows → (format version : ℕ) (kept more : List ℕ) → IsDraft format version kept →
    grown format version kept more ≡ value_of (with_record (form_in format version kept) more)
grown_value grows format version kept more draft = by (records_among kept) kept draft.octets_are
  where
    by : (records : List (List ℕ)) (kept : List ℕ) →
        kept ≡ value_octets_of records (record { format = format; version = version; records = records }) →
        grown format version kept more ≡ value_of (record { format = format; version = version; records = records ++ more ∷ [] })
    by [] kept e = cc (append-nil (record_octets more))
    by (first ∷ records) kept e =
        cc (grows (record { format = format; version = version; records = first ∷ records }) more)

value_grown : (form : PacketForm) (more : List ℕ) → value_octets (with_record form more) ≡ value_of (with_record form more)
value_grown form more = by form.records
  where
    by : (records : List (List ℕ)) → value_octets_of (records ++ more ∷ []) (with_record form more) ≡ value_of (with_record form more)
    by [] = refl
    by (first ∷ records) = refl

pub length_grown : (format version : ℕ) (kept more : List ℕ) → length (grown format version kept more) ≡ grown_length kept (length more)
length_grown format version kept more = grind (arith, length-append)

request_grown : Grows → (format version : ℕ) (kept more : List ℕ) → IsDraft format version kept →
    request_length (with_record (form_in format version kept) more) ≡ 11 + grown_length kept (length more)
request_grown grows format version kept more draft =
    ap (λ (o : List ℕ). 6 + 2 + 3 + length o) (value_grown (form_in format version kept) more ∙ sym (grown_value grows format version kept more draft))
    ∙ ap (λ (n : ℕ). 11 + n) (length_grown format version kept more)

over : (n : ℕ) → nat_lt 65496 n ≡ nat_lt 65507 (11 + n)
over n = search (arith, nat_tests, ltb_from_iff, ltb-true)

-- the faults are those of the octets kept
pub fault_kept : Grows → (format version : ℕ) (kept more : List ℕ) → IsDraft format version kept →
    kept_fault format kept more ≡ addition_fault (form_in format version kept) more
fault_kept grows format version kept more draft = search (arith, over, request_grown, stated)

-- ---- the draft with the record

-- what no fault tells of the octets kept
pub record Fits (format version : ℕ) (kept more : List ℕ) : Type 0 where
  pub draft : IsDraft format version kept
  pub few : length (records_among kept) < 255
  pub short : grown_length kept (length more) ≤ 65496

pub fits : (format version : ℕ) (kept more : List ℕ) → IsDraft format version kept → kept_fault format kept more ≡ None → Fits format version kept more
fits format version kept more draft none = grind (arith, nat_tests, eqb-false, stated, ltb-false)

short_records : (format version : ℕ) (kept more : List ℕ) → Fits format version kept more →
    All (λ octets. length octets < 65536) (records_among kept ++ more ∷ [])
short_records format version kept more fits =
    All-append (λ (octets : List ℕ). length octets < 65536) (records_among kept) (more ∷ []) fits.draft.short_records
    (All-cons (λ (octets : List ℕ). length octets < 65536) more [] (omega (arith, short_more kept (length more) fits.short)) (All-nil _))
  where
    short_more : (kept : List ℕ) (more : ℕ) → grown_length kept more ≤ 65496 → more < 65536
    short_more [] more short = omega (arith, short)
    short_more (count ∷ kept) more short = omega (arith, short)

form_is : (format version : ℕ) (kept more : List ℕ) → Fits format version kept more → IsForm (with_record (form_in format version kept) more)
form_is format version kept more fits = search (arith, length-append, short_records)

pub records_grown : ReadsBack → Grows → (format version : ℕ) (kept more : List ℕ) → Fits format version kept more →
    records_among (grown format version kept more) ≡ records_among kept ++ more ∷ []
records_grown reads grows format version kept more fits = search (arith, grown_value, back, form_is)

pub form_grown : ReadsBack → Grows → (format version : ℕ) (kept more : List ℕ) → Fits format version kept more →
    form_in format version (grown format version kept more) ≡ with_record (form_in format version kept) more
form_grown reads grows format version kept more fits = cc (records_grown reads grows format version kept more fits)

pub draft_grown : ReadsBack → Grows → (format version : ℕ) (kept more : List ℕ) → Fits format version kept more →
    IsDraft format version (grown format version kept more)
draft_grown reads grows format version kept more fits =
    search (arith, records_grown, grown_value, value_grown, form_grown, length-append, short_records, length_grown)
