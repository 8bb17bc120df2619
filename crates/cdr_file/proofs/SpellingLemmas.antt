-- A file is read exactly where octets spell it.
use Rattle.std.proofs.Common.{◌≡◌, ℕ, ◌+◌, Bool, true, false, List, ◌++◌, length, drop, Option, None, Result, Ok, Err, refl, ap, sym, subst, ◌∙◌, arith, append_assoc}
use Rattle.std.specs.List.{flat_map}
use Rattle.std.specs.Prelude.{◌==◌, ◌||◌}
use Rattle.std.proofs.lemmas.Bool.{eq-eqb, eqb-true, ltb-false, not-false}
use Rattle.std.proofs.lemmas.List.{drop_at, length-append}
use Rattle.cdr_file.specs.CdrHeader.{AreCdrs, spelled_cdr}
use Rattle.cdr_file.specs.FileHeader.{IsFileHeader, extends, header_with, plain_header, release_octets}
use Rattle.cdr_file.specs.Reading.{HasHeader, cdrs_from, cdrs_in, count_tests, extends_in, extension_end, extension_in, extension_length, extension_place, fields_in, file_in, file_with, filter_in, filter_length, first_fault, header_end, header_fault, header_in, number_at, unless, with_cdrs}
use Rattle.cdr_file.specs.Spelling.{AreOctets, IsFile, Spells, spelled_file}
use Rattle.cdr_file.specs.declared.fault.FileFault.{FileFault}
use Rattle.cdr_file.specs.declared.file.Cdr.{Cdr}
use Rattle.cdr_file.specs.declared.file.CdrFile.{CdrFile}
use Rattle.cdr_file.specs.declared.file_header.FileHeader.{FileHeader}
use Rattle.cdr_file.proofs.CdrLemmas.{cdrs_again, cdrs_are, no_fault, read_is}
use Rattle.cdr_file.proofs.HeaderLemmas.{Extended, Parts, bare, extended_by, extends_is, header_fits, header_is, length-plain_header, no_header_fault, parts_again, releases_count}
use Rattle.cdr_file.proofs.NumberLemmas.{AreOctets-drop, length_of_part, number_fits}

-- What is spelled is read.

pub file_again : (file : CdrFile) → IsFile file → file_in (spelled_file file) ≡ Ok file
unfolding file_in header_in fields_in
file_again file is =
    let h : FileHeader = file.header in
    let octets : List ℕ = spelled_file file in
    let cdrs : List ℕ = flat_map spelled_cdr file.cdrs in
    let front : List ℕ = plain_header h file.filter file.extension in
    let behind : List ℕ = release_octets h ++ cdrs in
    let whole : octets ≡ front ++ behind = append_assoc front (release_octets h) cdrs in
    let parts : Parts octets h file.filter file.extension behind =
    subst (λ (o : List ℕ). Parts o h file.filter file.extension behind) (sym whole) (parts_again h file.filter file.extension behind is.header is.filter is.extension) in
    let plain : length front ≡ 52 + length file.filter + length file.extension = length-plain_header h file.filter file.extension is.header.address in
    let header : length (header_with h file.filter file.extension) ≡ length front + length (release_octets h) = length-append front (release_octets h) in
    let all : length octets ≡ length (header_with h file.filter file.extension) + length cdrs =
    length-append (header_with h file.filter file.extension) cdrs in
    let stated : number_at 4 0 octets ≡ length octets = ap (λ (h : FileHeader). h.length) (fields parts) ∙ is.file_length in
    let end : header_end octets ≡ length (header_with h file.filter file.extension) = ap (λ (h : FileHeader). h.header_length) (fields parts) ∙ is.header_length in
    let count : length file.cdrs ≡ number_at 4 18 octets = sym (ap (λ (h : FileHeader). h.count) (fields parts) ∙ is.count) in
    let at : extension_end octets ≡ length front = omega (arith, plain, parts.filter_count, parts.extension_count) in
    let extended : Extended octets h =
    extended_by octets h cdrs (length front) at (ap (λ (n : ℕ). drop n octets) (sym at) ∙ parts.past) (end ∙ header)
    (ap (λ (h : FileHeader). h.high_release == 7) (fields parts)) (ap (λ (h : FileHeader). h.low_release == 7) (fields parts))
    is.header in
    let has : HasHeader octets = record {
      least = omega (arith, all, header, plain);
      stated = stated;
      from = omega (arith, end, header, plain);
      within = omega (arith, end, all);
      filter = omega (arith, end, header, plain, parts.filter_count);
      extension = omega (arith, at, extended.count, end, header);
    } in
    let past : drop (header_end octets) octets ≡ cdrs = drop_at (header_with h file.filter file.extension) cdrs (header_end octets) (sym end) in
    let read : cdrs_in octets ≡ Ok file.cdrs =
    (λ i. cdrs_from (extended.extends i) (header_end octets) (past i)) ∙ cdrs_again (extends h) (length cdrs) (header_end octets) file.cdrs is.cdrs (omega arith) in
    let counted : first_fault (count_tests octets file.cdrs) ≡ None = rw (eq-eqb (length file.cdrs) (number_at 4 18 octets) count) refl in
    ap (λ (fault : Option FileFault). unless fault (with_cdrs octets (cdrs_in octets))) (no_header_fault octets has)
    ∙ ap (with_cdrs octets) read
    ∙ ap (λ (fault : Option FileFault). unless fault (Ok (file_with octets file.cdrs))) counted
    ∙ (λ i. Ok (record {
      header = record (fields parts i) { high_extension = extended.high i; low_extension = extended.low i };
      filter = parts.is_filter i;
      extension = parts.is_extension i;
      cdrs = file.cdrs;
    }))
  where
    fields : Parts (spelled_file file) file.header file.filter file.extension (release_octets file.header ++ flat_map spelled_cdr file.cdrs) →
        fields_in (spelled_file file) ≡ bare file.header
    fields parts = parts.fields

pub spelled_again : (file : CdrFile) (octets : List ℕ) → Spells file octets → file_in octets ≡ Ok file
spelled_again file octets spells = ap file_in spells.spelled ∙ file_again file spells.is_file

-- What is read is spelled.

pub has_header : (octets : List ℕ) → header_fault octets ≡ None → HasHeader octets
unfolding header_fault
has_header octets none =
    let short = no_fault _ _ _ none in
    let whole = no_fault _ _ _ short.1 in
    let header = no_fault _ _ _ whole.1 in
    let filter = no_fault _ _ _ header.1 in
    let extension = no_fault _ _ _ filter.1 in
    let bounds = neither _ _ header.0 in
    record {
      least = ltb-false _ _ short.0;
      stated = eqb-true _ _ (not-false _ whole.0);
      from = ltb-false _ _ bounds.0;
      within = ltb-false _ _ bounds.1;
      filter = ltb-false _ _ filter.0;
      extension = eqb-true _ _ (not-false _ extension.0);
    }
  where
    neither : (a b : Bool) → a || b ≡ false → (a ≡ false) × (b ≡ false)
    neither true b e = absurd cc
    neither false b e = (refl, e)

-- what was read of the CDRs of a file
record Counted (octets : List ℕ) (file : CdrFile) (read : Result (List Cdr) FileFault) : Type 0 where
  cdrs : List Cdr
  were : read ≡ Ok cdrs
  count : length cdrs ≡ number_at 4 18 octets
  same : file_with octets cdrs ≡ file

counted_is : (octets : List ℕ) (file : CdrFile) (read : Result (List Cdr) FileFault) → with_cdrs octets read ≡ Ok file → Counted octets file read
counted_is octets file (Err fault) e = absurd cc
counted_is octets file (Ok cdrs) e =
    let all = read_is (first_fault (count_tests octets cdrs)) (Ok (file_with octets cdrs)) file e in
    let count = no_fault _ _ _ all.0 in
    let same : file_with octets cdrs ≡ file = inside (file_with octets cdrs) file all.1 in
    record { cdrs = cdrs; were = refl; count = eqb-true _ _ (not-false _ count.0); same = same }
  where
    inside : (x y : CdrFile) → (let r : Result CdrFile FileFault = Ok x in r) ≡ Ok y → x ≡ y
    inside x y e = cc

spells_with : (octets : List ℕ) (cdrs : List Cdr) → AreOctets octets → HasHeader octets → cdrs_in octets ≡ Ok cdrs → length cdrs ≡ number_at 4 18 octets →
    Spells (file_with octets cdrs) octets
unfolding filter_in extension_in header_in fields_in
spells_with octets cdrs fit has read count =
    let start : ℕ = header_end octets in
    let rest : List ℕ = drop start octets in
    let are = cdrs_are (extends_in octets) (length rest) start rest cdrs (AreOctets-drop start octets fit) read in
    let fits : IsFileHeader (header_in octets) = header_fits octets fit has in
    let filter_count : length (filter_in octets) ≡ filter_length octets = length_of_part 50 (filter_length octets) octets (omega (arith, has.filter, has.within)) in
    let extension_count : length (extension_in octets) ≡ extension_length octets =
    length_of_part (extension_place octets + 2) (extension_length octets) octets (omega (arith, has.extension, has.within)) in
    let plain_long = length-plain_header (header_in octets) (filter_in octets) (extension_in octets) fits.address in
    let header_long = length-append (plain_header (header_in octets) (filter_in octets) (extension_in octets)) (release_octets (header_in octets)) in
    let spelled : octets ≡ spelled_file (file_with octets cdrs) =
    header_is octets fit has ∙ ap (λ (o : List ℕ). header_with (header_in octets) (filter_in octets) (extension_in octets) ++ o) are.1 in
    record {
      is_file = record {
        header = fits;
        cdrs = subst (λ (b : Bool). AreCdrs b cdrs) (sym (extends_is octets has)) are.0;
        filter = omega (arith, filter_count, number_fits 2 48 octets fit);
        extension = omega (arith, extension_count, number_fits 2 (extension_place octets) octets fit);
        file_length = has.stated ∙ ap length spelled;
        header_length = omega (arith, header_long, plain_long, releases_count octets, filter_count, extension_count, has.extension);
        count = sym count;
      };
      spelled = spelled;
    }

pub read_spells : (octets : List ℕ) (file : CdrFile) → AreOctets octets → file_in octets ≡ Ok file → Spells file octets
unfolding file_in
read_spells octets file fit e =
    let all = read_is (header_fault octets) (with_cdrs octets (cdrs_in octets)) file e in
    let counted = counted_is octets file (cdrs_in octets) all.1 in
    subst (λ (f : CdrFile). Spells f octets) counted.same
    (spells_with octets counted.cdrs fit (has_header octets all.0) counted.were counted.count)
