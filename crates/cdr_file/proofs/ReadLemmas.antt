-- The steps in which a file is read are those of the definition.
use Rattle.std.proofs.Common.{◌≡◌, ◌≢◌, ℕ, Bool, List, length, drop, Option, Some, None, Result, Ok, Err, refl, ap, sym, ◌∙◌}
use Rattle.std.proofs.lemmas.Bool.{eq-eqb, ne_eqb}
use Rattle.cdr_file.specs.Reading.{cdrs_from, cdrs_in, count_tests, extends_in, extension_in, fields_in, file_in, file_with, filter_in, first_fault, header_end, header_fault, header_in, number_at, unless, with_cdrs}
use Rattle.cdr_file.specs.declared.fault.FileFault.{FileFault}
use Rattle.cdr_file.specs.declared.fault.FileFault.TheVariants.{Bad}
use Rattle.cdr_file.specs.declared.fault.FileKind.TheVariants as kind
use Rattle.cdr_file.specs.declared.file.Cdr.{Cdr}
use Rattle.cdr_file.specs.declared.file_header.FileHeader.{FileHeader}

pub header_faulty : (octets : List ℕ) (fault : FileFault) → header_fault octets ≡ Some fault → file_in octets ≡ Err fault
unfolding file_in
header_faulty octets fault is = ap (λ (f : Option FileFault). unless f (with_cdrs octets (cdrs_in octets))) is

-- behind a whole header
past_header : (octets : List ℕ) (read : Result (List Cdr) FileFault) → header_fault octets ≡ None → cdrs_in octets ≡ read → file_in octets ≡ with_cdrs octets read
unfolding file_in
past_header octets read none is =
    ap (λ (f : Option FileFault). unless f (with_cdrs octets (cdrs_in octets))) none ∙ ap (with_cdrs octets) is

-- the CDRs begin where the header that was read ends
pub end_is : (octets : List ℕ) (header : FileHeader) → header ≡ header_in octets → header.header_length ≡ header_end octets
unfolding header_in fields_in
end_is octets header is = ap (λ (h : FileHeader). h.header_length) is

count_is : (octets : List ℕ) (header : FileHeader) → header ≡ header_in octets → header.count ≡ number_at 4 18 octets
unfolding header_in fields_in
count_is octets header is = ap (λ (h : FileHeader). h.count) is

cdrs_are : (octets : List ℕ) (extends : Bool) (header : FileHeader) (read : Result (List Cdr) FileFault) → extends ≡ extends_in octets →
    header ≡ header_in octets → cdrs_from extends header.header_length (drop header.header_length octets) ≡ read → cdrs_in octets ≡ read
cdrs_are octets extends header read told is found =
    sym (λ i. cdrs_from (told i) (end_is octets header is i) (drop (end_is octets header is i) octets)) ∙ found

pub cdrs_faulty : (octets : List ℕ) (extends : Bool) (header : FileHeader) (fault : FileFault) → header_fault octets ≡ None → extends ≡ extends_in octets → header ≡ header_in octets →
    cdrs_from extends header.header_length (drop header.header_length octets) ≡ Err fault → file_in octets ≡ Err fault
cdrs_faulty octets extends header fault none told is found =
    past_header octets (Err fault) none (cdrs_are octets extends header (Err fault) told is found)

pub count_faulty : (octets : List ℕ) (extends : Bool) (header : FileHeader) (cdrs : List Cdr) → header_fault octets ≡ None → extends ≡ extends_in octets → header ≡ header_in octets →
    cdrs_from extends header.header_length (drop header.header_length octets) ≡ Ok cdrs → length cdrs ≢ header.count → file_in octets ≡ Err (Bad 18 kind.Count)
count_faulty octets extends header cdrs none told is found differs =
    past_header octets (Ok cdrs) none (cdrs_are octets extends header (Ok cdrs) told is found)
    ∙ ap (λ (f : Option FileFault). unless f (Ok (file_with octets cdrs))) fault
  where
    fault : first_fault (count_tests octets cdrs) ≡ Some (Bad 18 kind.Count)
    fault = rw (ne_eqb (length cdrs) (number_at 4 18 octets) (λ e. differs (e ∙ sym (count_is octets header is)))) refl

pub file_read : (octets : List ℕ) (extends : Bool) (header : FileHeader) (filter extension : List ℕ) (cdrs : List Cdr) → header_fault octets ≡ None → extends ≡ extends_in octets → header ≡ header_in octets →
    cdrs_from extends header.header_length (drop header.header_length octets) ≡ Ok cdrs → length cdrs ≡ header.count →
    filter ≡ filter_in octets → extension ≡ extension_in octets →
    file_in octets ≡ Ok (record { header = header; filter = filter; extension = extension; cdrs = cdrs })
file_read octets extends header filter extension cdrs none told is found same is_filter is_extension =
    let counted : first_fault (count_tests octets cdrs) ≡ None =
    rw (eq-eqb (length cdrs) (number_at 4 18 octets) (same ∙ count_is octets header is)) refl in
    past_header octets (Ok cdrs) none (cdrs_are octets extends header (Ok cdrs) told is found)
    ∙ ap (λ (f : Option FileFault). unless f (Ok (file_with octets cdrs))) counted
    ∙ sym (λ i. Ok (record { header = is i; filter = is_filter i; extension = is_extension i; cdrs = cdrs }))
