-- How often a record is filed under a key, by the key's state.
use Rattle.std.proofs.Common.{◌≡◌, ⊎_elim, ℕ, suc, ◌+◌, ◌-◌, ◌≤◌, ◌==◌, ◌&&◌, nat_lt, slice_get, Contains, Bool, true, false, cond, length, List, [], ◌∷◌, ◌++◌, Option, Some, sym, ap, ◌∙◌, arith, nat_le}
use Rattle.once_core.proofs.Names.{filed_record, filed_under, FiledRecord, is_record_of, nat_tests, option_map_or, packet_of, PacketForm, PacketKey, record_count, records_from, records_if, records_within, same_key, sum_by-append, sum_by-cons, times_filed}
use Rattle.once_core.proofs.ListLemmas.{in_cons, in_none}
use Rattle.once_core.proofs.CaseLemmas.{by_option}

-- one, where the test passes
abbrev pub one_if : Bool → ℕ
one_if b = cond b 1 0

-- one, where the packet with these octets has a record with this index
abbrev pub within : ℕ → List ℕ → ℕ
within index octets = one_if (nat_lt index (record_count octets))

-- one, where the index is that of one of so many records from this one on
abbrev from_on : ℕ → ℕ → ℕ → ℕ
from_on index j count = cond (nat_le j index) (cond (nat_lt index (j + count)) 1 0) 0

module _ (key : PacketKey) (index : ℕ) where
  pub times-append : (rs more : List FiledRecord) → times_filed key index (rs ++ more) ≡ times_filed key index rs + times_filed key index more
  times-append rs more = sum_by-append (λ (x : FiledRecord). cond (is_record_of key index x) 1 0) rs more

  -- what is filed from a record on under a key that is the key, or isn't
  times_from : (k : PacketKey) (same : Bool) → same_key k key ≡ same → (moment format version j : ℕ) (records : List (List ℕ))
      → times_filed key index (records_from k moment format version j records) ≡ cond same (from_on index j (length records)) 0
  times_from k same e moment format version j [] = grind (arith, nat_tests)
  times_from k same e moment format version j (r ∷ records) =
      let more = records_from k moment format version (j + 1) records in
      let now = filed_record k moment format version (j, r) in
      sum_by-cons (λ (x : FiledRecord). one_if (is_record_of key index x)) now more
      ∙ ap (λ (n : ℕ). one_if (same_key k key && (j == index)) + n)
      (times_from k same e moment format version (j + 1) records)
      ∙ one_more k same e j (length records)
    where
      one_more : (k : PacketKey) (same : Bool) → same_key k key ≡ same → (j count : ℕ)
          → one_if (same_key k key && (j == index)) + cond same (from_on index (j + 1) count) 0 ≡ cond same
          (from_on index j (suc count)) 0
      one_more k same e j count = grind (arith, nat_tests)

  times_under : (k : PacketKey) (same : Bool) → same_key k key ≡ same → (moment : ℕ) (octets : List ℕ)
      → times_filed key index (filed_under k moment octets) ≡ cond same (within index octets) 0
  times_under k same e moment octets = by_option
      (λ (o : Option PacketForm). times_filed key index (records_if k moment o)
      ≡ cond same (one_if (nat_lt index (option_map_or (λ form. length form.records) o 0))) 0)
      (packet_of octets) (λ none. grind (arith, nat_tests))
      (λ form there. times_from k same e moment form.format form.version 0 form.records ∙ grind (arith, nat_tests))

  pub times_of_packet : (k : PacketKey) (moment : ℕ) (octets : List ℕ) → same_key k key ≡ true → times_filed key index (filed_under k moment octets) ≡ within index octets
  times_of_packet k moment octets same = times_under k true same moment octets

  pub none_of_packet : (k : PacketKey) (moment : ℕ) (octets : List ℕ) → same_key k key ≡ false → times_filed key index (filed_under k moment octets) ≡ 0
  none_of_packet k moment octets apart = times_under k false apart moment octets

-- ---- the octets of records

pub numbered_records : (k : PacketKey) (moment format version j : ℕ) (records : List (List ℕ)) (r : FiledRecord)
    → Contains (records_from k moment format version j records) r → (j ≤ r.index) × (slice_get records (r.index - j) ≡ Some r.octets) × (r.key ≡ k)
numbered_records k moment format version j [] r is = in_none r is
numbered_records k moment format version j (octets ∷ records) r is = ⊎_elim
    (λ e.
    let index : j ≡ r.index = ap (λ (x : FiledRecord). x.index) e in
    let none : r.index - j ≡ 0 = omega (arith, index) in
    (omega (arith, index), ap (slice_get (octets ∷ records)) none ∙ ap (λ (x : FiledRecord). Some x.octets) e, ap (λ (x : FiledRecord). x.key) (sym e)))
    (λ later.
    let there = numbered_records k moment format version (j + 1) records r later in
    let more : r.index - j ≡ suc (r.index - (j + 1)) = omega (arith, there.0) in
    (omega (arith, there.0), ap (slice_get (octets ∷ records)) more ∙ there.1, there.2))
    (in_cons (filed_record k moment format version (j, octets)) r (records_from k moment format version (j + 1) records) is)

-- a record of a packet is the one with its index
pub record_within : (k : PacketKey) (moment : ℕ) (octets : List ℕ) (r : FiledRecord) → Contains (filed_under k moment octets) r
    → (slice_get (records_within octets) r.index ≡ Some r.octets) × (r.key ≡ k)
record_within k moment octets r =
    by_option (λ (o : Option PacketForm). Contains (records_if k moment o) r → (slice_get (option_map_or (λ form. form.records) o []) r.index ≡ Some r.octets) × (r.key ≡ k))
    (packet_of octets) (λ none is. in_none r is)
    (λ form found is.
    let there = numbered_records k moment form.format form.version 0 form.records r is in
    let whole : r.index - 0 ≡ r.index = omega arith in
    (ap (slice_get form.records) (sym whole) ∙ there.1, there.2))
