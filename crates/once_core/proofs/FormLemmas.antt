-- What a draft is can be sent, and is read back as it was submitted.
use Rattle.std.proofs.Common.{◌≡◌, ◌↔◌, ℕ, ◌+◌, ◌*◌, ◌/◌, ◌%◌, ◌≤◌, ◌==◌, not, Bool, true, List, [], ◌∷◌, ◌++◌, length, Some, refl, sym, subst, arith, append_assoc, append-nil, flat_map}
use Rattle.once_core.proofs.Names.{addition_fault, and_parts, draft_of, false≢true, Full, has_values, is_draft, is_fault_free, is_without_records, list_all, nat_tests, packet_anew, packet_of, packet_of_form, PacketForm, record_octets, records_at, SpellRecords, takes_all, value_octets, value_of, with_record}
use Rattle.ber_frame.specs.Checked.{is_one_value}
use Rattle.once_core.proofs.CaseLemmas.{if_both, if_known}

-- what the law of packets says: records are read where octets spell them
abbrev pub RecordsSpelled : Type 0
RecordsSpelled = (count : ℕ) (records : List (List ℕ)) (octets : List ℕ) → (records_at count octets ≡ Some records) ↔ ((length records ≡ count) × SpellRecords records octets)

-- the packet has a record, is read back, and is short; and its records are what their format says
pub record GoodForm (form : PacketForm) : Type 0 where
  pub some : 1 ≤ length form.records
  pub read : packet_of (value_of form) ≡ Some form
  pub short : length (value_of form) ≤ 65496
  pub values : has_values form ≡ true

-- ---- a packet that is written is read back

halves : (n : ℕ) → n ≡ 256 * (n / 256) + n % 256
halves n = omega arith

records_spell : (records : List (List ℕ)) → SpellRecords records (flat_map record_octets records)
records_spell [] = refl
records_spell (first ∷ records) = (
  flat_map record_octets records,
  record { high = length first / 256; low = length first % 256; stated = halves (length first); whole = refl },
  records_spell records,
)

pub value_read : RecordsSpelled → (form : PacketForm) → 1 ≤ length form.records → packet_of (value_of form) ≡ Some form
value_read law form some = read
    ((law (length form.records) form.records (flat_map record_octets form.records)).1
    (refl, records_spell form.records))
  where
    read : records_at (length form.records) (flat_map record_octets form.records) ≡ Some form.records
        → packet_of (value_of form) ≡ Some form
    read spelled = grind (arith, nat_tests, halves form.version)

pub value_octets_are : (form : PacketForm) → 1 ≤ length form.records → value_octets form ≡ value_of form
value_octets_are form some = grind arith

pub packet_is : (form : PacketForm) → 1 ≤ length form.records → packet_of_form form ≡ Full form (value_of form)
packet_is form some = grind arith

-- ---- what a draft takes

record Fits (form : PacketForm) : Type 0 where
  short : length (value_octets form) ≤ 65496
  values : has_values form ≡ true

more_values : (records : List (List ℕ)) (r : List ℕ) → list_all is_one_value records ≡ true → is_one_value r ≡ true → list_all is_one_value (records ++ r ∷ []) ≡ true
more_values [] r all one = grind arith
more_values (first ∷ records) r all one = grind (arith, more_values records r)

taken : (form : PacketForm) (r : List ℕ) → Fits form → is_fault_free (addition_fault form r) ≡ true → Fits (with_record form r)
taken form r fits free = record {
  short = grind (arith, nat_tests);
  values = grind (arith, nat_tests, more_values form.records r);
}

all_taken : (records : List (List ℕ)) (form : PacketForm) → Fits form → takes_all form records ≡ true → Fits (record form { records = form.records ++ records })
all_taken [] form fits takes = subst (λ (rs : List (List ℕ)). Fits (record form { records = rs })) (sym (append-nil form.records)) fits
all_taken (r ∷ records) form fits takes = if_known (λ (b : Bool). b ≡ true → Fits (record form { records = form.records ++ (r ∷ records) })) (is_fault_free (addition_fault form r))
    (λ e more. subst (λ (rs : List (List ℕ)). Fits (record form { records = rs })) (append_assoc form.records (r ∷ []) records)
    (all_taken records (with_record form r) (taken form r fits e) more)) (λ e none. absurd (false≢true none)) takes

some_records : (records : List (List ℕ)) → not (length records == 0) ≡ true → 1 ≤ length records
some_records [] e = absurd (false≢true e)
some_records (r ∷ records) e = omega arith

values_none : (format : ℕ) → has_values (packet_anew format 0) ≡ true
values_none format = if_both (λ (b : Bool). b ≡ true) (format == 1) refl refl

pub draft_is_good : RecordsSpelled → (form : PacketForm) → is_draft form ≡ true → GoodForm form
draft_is_good law form draft =
    let parts = and_parts (not (is_without_records form)) (takes_all (packet_anew form.format form.version) form.records) draft in
    let some = some_records form.records parts.0 in
    let fits : Fits form = all_taken form.records (packet_anew form.format form.version) (record { short = omega arith; values = values_none form.format }) parts.1 in
    record {
      some = some;
      read = value_read law form some;
      short = subst (λ (octets : List ℕ). length octets ≤ 65496) (value_octets_are form some) fits.short;
      values = fits.values;
    }

-- what is submitted is a draft
pub submitted_is_draft : (octets : List ℕ) (form : PacketForm) → draft_of octets ≡ Some form → is_draft form ≡ true
submitted_is_draft octets form e = grind arith
