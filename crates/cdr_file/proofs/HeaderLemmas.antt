-- The header of a file, its routeing filter and its private extension, are read exactly where octets spell them.
use Rattle.std.proofs.Common.{◌≡◌, ◌≢◌, ℕ, ◌+◌, ◌<◌, ◌≤◌, ◌^◌, List, [], ◌∷◌, ◌++◌, length, take, drop, Bool, true, false, true≢false, if◌then◌else◌, Option, None, Some, refl, ap, sym, subst, ◌∙◌, arith, append_assoc}
use Rattle.std.specs.Prelude.{◌==◌, ◌&&◌, ◌||◌, not, slice_index, is_some}
use Rattle.std.proofs.lemmas.Bool.{and_parts, le-ltb, eq-eqb, ne_eqb}
use Rattle.std.proofs.lemmas.List.{take_at, drop_at, get_or-drop, length-append, drop-drop}
use Rattle.byteorder.specs.Endian.{big_bytes, big_number}
use Rattle.byteorder.specs.Numbers.{big_number-reads_back}
use Rattle.cdr_file.specs.FileHeader.{IsFileHeader, extends, field_octets, header_with, plain_header, release_octets, with_length}
use Rattle.cdr_file.specs.Profile.{IsExtension, extension_if, extension_octets}
use Rattle.cdr_file.specs.Reading.{HasHeader, extends_in, extension_end, extension_in, extension_length, extension_place, fields_in, filter_in, filter_length, header_end, header_fault, header_in, high_extension_in, is_seven, low_extension_in, number_at, one_if, release_count, sevens}
use Rattle.cdr_file.specs.SharedOctet.{shared_octet}
use Rattle.cdr_file.specs.Spelling.{AreOctets}
use Rattle.cdr_file.specs.declared.file_header.FileHeader.{FileHeader}
use Rattle.cdr_file.proofs.CdrLemmas.{count_again, extension_again, extension_fits, extension_is}
use Rattle.cdr_file.proofs.FileLemmas.{length-field_octets}
use Rattle.cdr_file.proofs.NumberLemmas.{high_again, length_of_part, low_again, number_fits, number_from_2, number_from_4, octet_from, octet_past, part_from, past_front, shared_from}

-- What is spelled is read.

-- a header without the extensions of its releases
abbrev pub bare : FileHeader → FileHeader
bare h = record h { high_extension = None; low_extension = None }

-- the fields are read, whatever comes after them
pub fields_again : (h : FileHeader) (rest : List ℕ) → IsFileHeader h → fields_in (field_octets h ++ rest) ≡ bare h
unfolding fields_in field_octets
fields_again h rest fits =
    let octets : List ℕ = field_octets h ++ rest in
    let file_length : number_at 4 0 octets ≡ h.length = big_number-reads_back 4 h.length (drop 4 octets) fits.file_length in
    let header_length : number_at 4 4 octets ≡ h.header_length = big_number-reads_back 4 h.header_length (drop 8 octets) fits.header_length in
    let opened : number_at 4 10 octets ≡ h.opened = big_number-reads_back 4 h.opened (drop 14 octets) fits.stamps.0 in
    let appended : number_at 4 14 octets ≡ h.appended = big_number-reads_back 4 h.appended (drop 18 octets) fits.stamps.1 in
    let count : number_at 4 18 octets ≡ h.count = big_number-reads_back 4 h.count (drop 22 octets) fits.count in
    let sequence : number_at 4 22 octets ≡ h.sequence = big_number-reads_back 4 h.sequence (drop 26 octets) fits.sequence in
    let tail : drop 27 octets ≡ h.address ++ (h.lost ∷ rest) = append_assoc h.address (h.lost ∷ []) rest in
    let address : take 20 (drop 27 octets) ≡ h.address =
    ap (λ (o : List ℕ). take 20 o) tail ∙ take_at h.address (h.lost ∷ rest) 20 fits.address in
    let lost : slice_index (drop 27 octets) 20 ≡ h.lost =
    ap (λ (o : List ℕ). slice_index o 20) tail ∙ octet_past 20 h.address (h.lost ∷ rest) fits.address in
    λ i. record {
      length = file_length i;
      header_length = header_length i;
      high_release = high_again h.high_release h.high_version fits.high.1 i;
      high_version = low_again h.high_release h.high_version fits.high.1 i;
      low_release = high_again h.low_release h.low_version fits.low.1 i;
      low_version = low_again h.low_release h.low_version fits.low.1 i;
      opened = opened i;
      appended = appended i;
      count = count i;
      sequence = sequence i;
      reason = h.reason;
      address = address i;
      lost = lost i;
      high_extension = None;
      low_extension = None;
    }

-- what a header with a filter and a private extension reads as, whatever comes after it
pub record Parts (octets : List ℕ) (h : FileHeader) (filter extension rest : List ℕ) : Type 0 where
  pub fields : fields_in octets ≡ bare h
  pub filter_count : filter_length octets ≡ length filter
  pub is_filter : filter_in octets ≡ filter
  pub extension_count : extension_length octets ≡ length extension
  pub is_extension : extension_in octets ≡ extension
  pub past : drop (extension_end octets) octets ≡ rest

pub parts_again : (h : FileHeader) (filter extension rest : List ℕ) → IsFileHeader h → length filter < 2 ^ 16 → length extension < 2 ^ 16 →
    Parts (plain_header h filter extension ++ rest) h filter extension rest
unfolding filter_in extension_in
parts_again h filter extension rest fits small_filter small_extension =
    let octets : List ℕ = plain_header h filter extension ++ rest in
    let after_filter : List ℕ = big_bytes 2 (length extension) ++ (extension ++ rest) in
    let after_fields : List ℕ = big_bytes 2 (length filter) ++ (filter ++ after_filter) in
    let parts : (with_length filter ++ with_length extension) ++ rest ≡ after_fields =
    append_assoc (with_length filter) (with_length extension) rest ∙ append_assoc (big_bytes 2 (length filter)) filter (with_length extension ++ rest)
    ∙ ap (λ (o : List ℕ). big_bytes 2 (length filter) ++ (filter ++ o)) (append_assoc (big_bytes 2 (length extension)) extension rest) in
    let whole : octets ≡ field_octets h ++ after_fields =
    append_assoc (field_octets h) (with_length filter ++ with_length extension) rest ∙ ap (λ (o : List ℕ). field_octets h ++ o) parts in
    let at_48 : drop 48 octets ≡ after_fields = past_front 48 octets (field_octets h) after_fields whole (length-field_octets h fits.address) in
    let filter_count : filter_length octets ≡ length filter =
    ap (λ (o : List ℕ). big_number 2 o) at_48 ∙ big_number-reads_back 2 (length filter) (filter ++ after_filter) small_filter in
    let at_50 : drop 50 octets ≡ filter ++ after_filter = sym (drop-drop 2 48 octets) ∙ ap (λ (o : List ℕ). drop 2 o) at_48 in
    let is_filter : take (filter_length octets) (drop 50 octets) ≡ filter =
    ap (λ (o : List ℕ). take (filter_length octets) o) at_50 ∙ take_at filter after_filter (filter_length octets) (sym filter_count) in
    let at_place : drop (extension_place octets) octets ≡ after_filter =
    sym (drop-drop (filter_length octets) 50 octets) ∙ ap (λ (o : List ℕ). drop (filter_length octets) o) at_50 ∙ drop_at filter after_filter (filter_length octets) (sym filter_count) in
    let extension_count : extension_length octets ≡ length extension =
    ap (λ (o : List ℕ). big_number 2 o) at_place ∙ big_number-reads_back 2 (length extension) (extension ++ rest) small_extension in
    let at_extension : drop (extension_place octets + 2) octets ≡ extension ++ rest =
    sym (drop-drop 2 (extension_place octets) octets) ∙ ap (λ (o : List ℕ). drop 2 o) at_place in
    let is_extension : take (extension_length octets) (drop (extension_place octets + 2) octets) ≡ extension =
    ap (λ (o : List ℕ). take (extension_length octets) o) at_extension ∙ take_at extension rest (extension_length octets) (sym extension_count) in
    let past : drop (extension_place octets + 2 + extension_length octets) octets ≡ rest =
    sym (drop-drop (extension_length octets) (extension_place octets + 2) octets) ∙ ap (λ (o : List ℕ). drop (extension_length octets) o) at_extension
    ∙ drop_at extension rest (extension_length octets) (sym extension_count) in
    record {
      fields = ap fields_in whole ∙ fields_again h after_fields fits;
      filter_count = filter_count;
      is_filter = is_filter;
      extension_count = extension_count;
      is_extension = is_extension;
      past = past;
    }

-- how long a header with a filter and a private extension is
pub length-plain_header : (h : FileHeader) (filter extension : List ℕ) → length h.address ≡ 20 →
    length (plain_header h filter extension) ≡ 52 + length filter + length extension
length-plain_header h filter extension long =
    omega (
      arith,
      length-field_octets h long,
      length-append (field_octets h) (with_length filter ++ with_length extension),
      length-append (with_length filter) (with_length extension),
      length-append (big_bytes 2 (length filter)) filter,
      length-append (big_bytes 2 (length extension)) extension,
    )

-- where the header of a file has these extensions, they are read
pub record Extended (octets : List ℕ) (h : FileHeader) : Type 0 where
  pub high : high_extension_in octets ≡ h.high_extension
  pub low : low_extension_in octets ≡ h.low_extension
  pub extends : extends_in octets ≡ extends h
  pub count : release_count octets ≡ length (release_octets h)

-- there are any where octets follow the private extension
extends_by_length : (e : ℕ) (high low : Option ℕ) → not (e == e + length
    (extension_octets high ++ extension_octets low)) ≡ is_some high || is_some low
extends_by_length e None None = ap not (eq-eqb e (e + 0) (omega arith))
extends_by_length e None (Some b) = ap not (ne_eqb e (e + 1) (omega arith))
extends_by_length e (Some a) low = ap not (ne_eqb e (e + length (a ∷ extension_octets low)) (omega arith))

sevens_if : (e a b : Bool) → (if e then one_if a + one_if b else 0) ≡ one_if (e && a) + one_if (e && b)
sevens_if true a b = refl
sevens_if false a b = refl

pub extended_by : (octets : List ℕ) (h : FileHeader) (rest : List ℕ) (e : ℕ) → extension_end octets ≡ e →
    drop e octets ≡ release_octets h ++ rest → header_end octets ≡ e + length (release_octets h) →
    is_seven 8 octets ≡ (h.high_release == 7) → is_seven 9 octets ≡ (h.low_release == 7) → IsFileHeader h →
    Extended octets h
extended_by octets h rest e at past end high_seven low_seven fits = record {
  high = (λ i. extension_if (same i && high_seven i) (slice_index octets (extension_end octets)))
      ∙ extension_again (extends h && (h.high_release == 7)) h.high_extension
      (slice_index octets (extension_end octets)) (low ++ rest)
      fits.high_extension (λ holds. there (extension_end octets) 0 (omega (arith, at)));
  low = (λ i. extension_if (same i && low_seven i) (slice_index octets
      (extension_end octets + one_if (is_seven 8 octets))))
      ∙ extension_again (extends h && (h.low_release == 7)) h.low_extension
      (slice_index octets (extension_end octets + one_if (is_seven 8 octets))) rest
      fits.low_extension (λ holds. there (extension_end octets + one_if (is_seven 8 octets)) (length high) (next holds)
      ∙ octet_past (length high) high (low ++ rest) refl);
  extends = same;
  count = (λ i. if same i then one_if (high_seven i) + one_if (low_seven i) else 0) ∙
      sevens_if (extends h) (h.high_release == 7) (h.low_release == 7)
      ∙ (λ i. sym high_count i + sym low_count i) ∙ sym (length-append high low);
}
  where
    high : List ℕ
    high = extension_octets h.high_extension

    low : List ℕ
    low = extension_octets h.low_extension

    same : extends_in octets ≡ extends h
    same = (λ i. not (at i == end i)) ∙ extends_by_length e h.high_extension h.low_extension

    high_count : length high ≡ one_if (extends h && (h.high_release == 7))
    high_count = count_again (extends h && (h.high_release == 7)) h.high_extension fits.high_extension

    low_count : length low ≡ one_if (extends h && (h.low_release == 7))
    low_count = count_again (extends h && (h.low_release == 7)) h.low_extension fits.low_extension

    there : (place k : ℕ) → place ≡ e + k → slice_index octets place ≡ slice_index (high ++ (low ++ rest)) k
    there place k is =
        ap (slice_index octets) is ∙ sym (get_or-drop e octets k 0)
        ∙ ap (λ (o : List ℕ). slice_index o k) (past ∙ append_assoc high low rest)

    next : extends h && (h.low_release == 7) ≡ true → extension_end octets + one_if (is_seven 8 octets)
        ≡ e + length high
    next holds =
        let some : extends h ≡ true = (and_parts (extends h) (h.low_release == 7) holds).0 in
        (λ i. at i + one_if (high_seven i)) ∙ ap (λ (n : ℕ). e + n)
        (sym (high_count ∙ ap (λ (b : Bool). one_if (b && (h.high_release == 7))) some))

-- a header that is whole has no fault
pub no_header_fault : (octets : List ℕ) → HasHeader octets → header_fault octets ≡ None
unfolding header_fault
no_header_fault octets has =
    rw (
      le-ltb (length octets) 52 has.least,
      eq-eqb (number_at 4 0 octets) (length octets) has.stated,
      le-ltb (header_end octets) 52 has.from,
      le-ltb (length octets) (header_end octets) has.within,
      le-ltb (header_end octets) (extension_place octets + 2) has.filter,
      eq-eqb (extension_end octets + release_count octets) (header_end octets) has.extension,
    ) refl

-- What is read is spelled.

-- the extensions of releases that are read
high_is : (octets : List ℕ) → AreOctets octets → IsExtension (extends_in octets && is_seven 8 octets) (high_extension_in octets)
high_is octets fit = extension_fits (extends_in octets && is_seven 8 octets) (slice_index octets (extension_end octets)) (fit (extension_end octets))

low_is : (octets : List ℕ) → AreOctets octets → IsExtension (extends_in octets && is_seven 9 octets) (low_extension_in octets)
low_is octets fit =
    extension_fits (extends_in octets && is_seven 9 octets) (slice_index octets (extension_end octets + one_if (is_seven 8 octets)))
    (fit (extension_end octets + one_if (is_seven 8 octets)))

one_of : (a b : Bool) → one_if a + one_if b ≢ 0 → a || b ≡ true
one_of false false some = absurd (some refl)
one_of _ _ some = refl

extends_by : (e a b : Bool) (x y : ℕ) → (e ≡ true → a || b ≡ true) → is_some (extension_if (e && a) x) || is_some (extension_if (e && b) y) ≡ e
extends_by true false false x y some = absurd (true≢false (sym (some refl)))
extends_by _ _ _ x y some = refl

-- one is there where octets follow the private extension
pub extends_is : (octets : List ℕ) → HasHeader octets → extends (header_in octets) ≡ extends_in octets
unfolding header_in
extends_is octets has =
    extends_by (extends_in octets) (is_seven 8 octets) (is_seven 9 octets) (slice_index octets (extension_end octets))
    (slice_index octets (extension_end octets + one_if (is_seven 8 octets))) (λ e. one_of (is_seven 8 octets) (is_seven 9 octets) (some e))
  where
    some : extends_in octets ≡ true → one_if (is_seven 8 octets) + one_if (is_seven 9 octets) ≢ 0
    some e none =
        let count : release_count octets ≡ sevens octets = ap (λ (b : Bool). if b then sevens octets else 0) e in
        let same : extension_end octets ≡ header_end octets = omega (arith, none, count, has.extension) in
        true≢false (sym e ∙ ap not (eq-eqb (extension_end octets) (header_end octets) same))

pub header_fits : (octets : List ℕ) → AreOctets octets → HasHeader octets → IsFileHeader (header_in octets)
unfolding header_in fields_in
header_fits octets fit has =
    let extends_same : extends_in octets ≡ extends (header_in octets) = sym (extends_is octets has) in
    record {
      high_extension = subst (λ (b : Bool). IsExtension (b && is_seven 8 octets) (high_extension_in octets)) extends_same (high_is octets fit);
      low_extension = subst (λ (b : Bool). IsExtension (b && is_seven 9 octets) (low_extension_in octets)) extends_same (low_is octets fit);
      address = length_of_part 27 20 octets (omega (arith, has.least));
      file_length = number_fits 4 0 octets fit;
      header_length = number_fits 4 4 octets fit;
      high = (omega (arith, fit 8), omega arith);
      low = (omega (arith, fit 9), omega arith);
      stamps = (number_fits 4 10 octets fit, number_fits 4 14 octets fit);
      count = number_fits 4 18 octets fit;
      sequence = number_fits 4 22 octets fit;
      octets = (fit 26, fit 47);
    }

-- the fields are the first 48 octets
pub fields_are : (octets : List ℕ) → AreOctets octets → 52 ≤ length octets → octets ≡ field_octets (fields_in octets) ++ drop 48 octets
unfolding fields_in field_octets
fields_are octets fit long =
    let h : FileHeader = fields_in octets in
    let with_address : drop 27 octets ≡ (h.address ++ h.lost ∷ []) ++ drop 48 octets =
    part_from 27 20 octets ∙ ap (λ (o : List ℕ). h.address ++ o) (octet_from 47 octets (omega arith)) ∙ sym (append_assoc h.address (h.lost ∷ []) (drop 48 octets)) in
    number_from_4 0 octets fit (omega arith)
    ∙ ap (λ (o : List ℕ). big_bytes 4 h.length ++ o) (number_from_4 4 octets fit (omega arith)
    ∙ ap (λ (o : List ℕ). big_bytes 4 h.header_length ++ o) (shared_from 8 octets (omega arith)
    ∙ ap (λ (o : List ℕ). shared_octet h.high_release h.high_version ∷ o) (shared_from 9 octets (omega arith)
    ∙ ap (λ (o : List ℕ). shared_octet h.low_release h.low_version ∷ o) (number_from_4 10 octets fit (omega arith)
    ∙ ap (λ (o : List ℕ). big_bytes 4 h.opened ++ o) (number_from_4 14 octets fit (omega arith)
    ∙ ap (λ (o : List ℕ). big_bytes 4 h.appended ++ o) (number_from_4 18 octets fit (omega arith)
    ∙ ap (λ (o : List ℕ). big_bytes 4 h.count ++ o) (number_from_4 22 octets fit (omega arith)
    ∙ ap (λ (o : List ℕ). big_bytes 4 h.sequence ++ o) (octet_from 26 octets (omega arith)
    ∙ ap (λ (o : List ℕ). h.reason ∷ o) with_address))))))))

-- what comes after them is the filter and the private extension
plain_is : (octets : List ℕ) → AreOctets octets → HasHeader octets →
    octets ≡ plain_header (fields_in octets) (filter_in octets) (extension_in octets) ++ drop (extension_end octets) octets
unfolding filter_in extension_in
plain_is octets fit has =
    let h : FileHeader = fields_in octets in
    let filter : List ℕ = filter_in octets in
    let extension : List ℕ = extension_in octets in
    let place : ℕ = extension_place octets in
    let rest : List ℕ = drop (extension_end octets) octets in
    let filter_count : length filter ≡ filter_length octets = length_of_part 50 (filter_length octets) octets (omega (arith, has.filter, has.within)) in
    let extension_count : length extension ≡ extension_length octets =
    length_of_part (place + 2) (extension_length octets) octets (omega (arith, has.extension, has.within)) in
    let at_extension : drop (place + 2) octets ≡ extension ++ rest = part_from (place + 2) (extension_length octets) octets in
    let at_place : drop place octets ≡ with_length extension ++ rest =
    number_from_2 place octets fit (omega (arith, has.filter, has.within))
    ∙ ap (λ (n : ℕ). big_bytes 2 n ++ drop (place + 2) octets) (sym extension_count)
    ∙ ap (λ (o : List ℕ). big_bytes 2 (length extension) ++ o) at_extension
    ∙ sym (append_assoc (big_bytes 2 (length extension)) extension rest) in
    let at_50 : drop 50 octets ≡ filter ++ (with_length extension ++ rest) =
    part_from 50 (filter_length octets) octets ∙ ap (λ (o : List ℕ). filter ++ o) at_place in
    let at_48 : drop 48 octets ≡ (with_length filter ++ with_length extension) ++ rest =
    number_from_2 48 octets fit (omega (arith, has.least))
    ∙ ap (λ (n : ℕ). big_bytes 2 n ++ drop 50 octets) (sym filter_count)
    ∙ ap (λ (o : List ℕ). big_bytes 2 (length filter) ++ o) at_50
    ∙ sym (append_assoc (big_bytes 2 (length filter)) filter (with_length extension ++ rest))
    ∙ sym (append_assoc (with_length filter) (with_length extension) rest) in
    fields_are octets fit has.least
    ∙ ap (λ (o : List ℕ). field_octets h ++ o) at_48
    ∙ sym (append_assoc (field_octets h) (with_length filter ++ with_length extension) rest)

-- and after these come the extensions of releases
releases_are : (octets : List ℕ) → AreOctets octets → HasHeader octets →
    drop (extension_end octets) octets ≡ (extension_octets (high_extension_in octets) ++ extension_octets (low_extension_in octets)) ++ drop (header_end octets) octets
releases_are octets fit has = by (extends_in octets) has.extension
  where
    place : ℕ
    place = extension_end octets

    next : ℕ
    next = place + one_if (is_seven 8 octets)

    by : (e : Bool) → place + (if e then sevens octets else 0) ≡ header_end octets → drop place octets ≡
        (extension_octets (extension_if (e && is_seven 8 octets) (slice_index octets place))
        ++ extension_octets (extension_if (e && is_seven 9 octets) (slice_index octets next))) ++ drop
        (header_end octets) octets
    by false total = let same : place ≡ header_end octets = omega (arith, total) in ap (λ (n : ℕ). drop n octets) same
    by true total =
        let end : next + one_if (is_seven 9 octets) ≡ header_end octets = omega (arith, total) in
        let high = extension_is (is_seven 8 octets) place octets fit (omega (arith, end, has.within)) in
        let low = extension_is (is_seven 9 octets) next octets fit (omega (arith, end, has.within)) in
        let high_octets : List ℕ = extension_octets (extension_if (is_seven 8 octets) (slice_index octets place)) in
        let low_octets : List ℕ = extension_octets (extension_if (is_seven 9 octets) (slice_index octets next)) in
        high.1 ∙ ap (λ (o : List ℕ). high_octets ++ o) (low.1 ∙ ap (λ (n : ℕ). low_octets ++ drop n octets) end)
        ∙ sym (append_assoc high_octets low_octets (drop (header_end octets) octets))

-- so octets begin with the header that they are read as
pub header_is : (octets : List ℕ) → AreOctets octets → HasHeader octets →
    octets ≡ header_with (header_in octets) (filter_in octets) (extension_in octets) ++ drop (header_end octets) octets
unfolding header_in field_octets
header_is octets fit has =
    let front : List ℕ = plain_header (fields_in octets) (filter_in octets) (extension_in octets) in
    let releases : List ℕ = extension_octets (high_extension_in octets) ++ extension_octets (low_extension_in octets) in
    plain_is octets fit has
    ∙ ap (λ (o : List ℕ). front ++ o) (releases_are octets fit has)
    ∙ sym (append_assoc front releases (drop (header_end octets) octets))

-- how many octets the extensions have that are read
pub releases_count : (octets : List ℕ) → length (extension_octets (high_extension_in octets) ++ extension_octets (low_extension_in octets)) ≡ release_count octets
releases_count octets =
    length-append (extension_octets (high_extension_in octets)) (extension_octets (low_extension_in octets))
    ∙ (λ i. count (extends_in octets && is_seven 8 octets) (slice_index octets (extension_end octets)) i
    + count (extends_in octets && is_seven 9 octets) (slice_index octets
    (extension_end octets + one_if (is_seven 8 octets))) i)
    ∙ sym (sevens_if (extends_in octets) (is_seven 8 octets) (is_seven 9 octets))
  where
    count : (holds : Bool) (octet : ℕ) → length (extension_octets (extension_if holds octet)) ≡ one_if holds
    count true octet = refl
    count false octet = refl
