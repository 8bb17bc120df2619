-- Reading a whole CDR file (3GPP TS 32.297, clause 6.1). The first condition that holds is the file's fault, and where none
-- holds the file is read.
use Rattle.std.specs.Prelude.{◌≡◌, ◌≤◌, ℕ, zero, suc, ◌+◌, ◌/◌, ◌%◌, ◌==◌, ◌&&◌, ◌||◌, not, nat_lt, Bool, true, false, if◌then◌else◌, List, [], ◌∷◌, length, take, drop, slice_index, Option, Some, None, Result, Ok, Err}
use Rattle.byteorder.specs.Endian.{big_number}
use Rattle.cdr_file.specs.declared.cdr_header.CdrHeader.{CdrHeader}
use Rattle.cdr_file.specs.declared.fault.FileFault.{FileFault}
use Rattle.cdr_file.specs.declared.fault.FileFault.TheVariants.{Bad}
use Rattle.cdr_file.specs.declared.fault.FileKind.TheVariants as kind
use Rattle.cdr_file.specs.declared.file.Cdr.{Cdr}
use Rattle.cdr_file.specs.declared.file.CdrFile.{CdrFile}
use Rattle.cdr_file.specs.declared.file_header.FileHeader.{FileHeader}
use Rattle.cdr_file.specs.FileHeader.{least_header}
use Rattle.cdr_file.specs.Profile.{extension_if}

-- Faults.

-- a condition, and the fault of what meets it
pub record Test : Type 0 where
  pub holds : Bool
  pub fault : FileFault

-- the fault of the first condition that holds
abbrev pub first_fault : List Test → Option FileFault
first_fault [] = None
first_fault (test ∷ tests) = if test.holds then Some test.fault else first_fault tests

-- what is read, if there is no fault
abbrev pub unless : {A : Type 0} → Option FileFault → Result A FileFault → Result A FileFault
unless None read = read
unless (Some fault) read = Err fault

-- The header.

-- the number in so many octets from a place on
abbrev pub number_at : ℕ → ℕ → List ℕ → ℕ
number_at width place octets = big_number width (drop place octets)

-- the two numbers that share the octet at a place
abbrev pub high_at : ℕ → List ℕ → ℕ
high_at place octets = slice_index octets place / 32

abbrev pub low_at : ℕ → List ℕ → ℕ
low_at place octets = slice_index octets place % 32

-- the fields, each from its place
unfoldable pub fields_in : List ℕ → FileHeader
fields_in octets = record {
  length = number_at 4 0 octets;
  header_length = number_at 4 4 octets;
  high_release = high_at 8 octets;
  high_version = low_at 8 octets;
  low_release = high_at 9 octets;
  low_version = low_at 9 octets;
  opened = number_at 4 10 octets;
  appended = number_at 4 14 octets;
  count = number_at 4 18 octets;
  sequence = number_at 4 22 octets;
  reason = slice_index octets 26;
  address = take 20 (drop 27 octets);
  lost = slice_index octets 47;
  high_extension = None;
  low_extension = None;
}

-- where the header says that it ends, and the CDRs begin
abbrev pub header_end : List ℕ → ℕ
header_end octets = number_at 4 4 octets

-- the routeing filter: its length stands in two octets at 48
abbrev pub filter_length : List ℕ → ℕ
filter_length octets = number_at 2 48 octets

unfoldable pub filter_in : List ℕ → List ℕ
filter_in octets = take (filter_length octets) (drop 50 octets)

-- the private extension: its length stands in two octets after the filter
abbrev pub extension_place : List ℕ → ℕ
extension_place octets = 50 + filter_length octets

abbrev pub extension_length : List ℕ → ℕ
extension_length octets = number_at 2 (extension_place octets) octets

unfoldable pub extension_in : List ℕ → List ℕ
extension_in octets = take (extension_length octets) (drop (extension_place octets + 2) octets)

-- where the private extension ends, and the extensions of releases begin, if there are any
abbrev pub extension_end : List ℕ → ℕ
extension_end octets = extension_place octets + 2 + extension_length octets

-- how many of a header's two releases are 7
abbrev pub one_if : Bool → ℕ
one_if true = 1
one_if false = 0

abbrev pub is_seven : ℕ → List ℕ → Bool
is_seven place octets = high_at place octets == 7

abbrev pub sevens : List ℕ → ℕ
sevens octets = one_if (is_seven 8 octets) + one_if (is_seven 9 octets)

-- octets follow the private extension: the file is read in profile 2, else in profile 1
abbrev pub extends_in : List ℕ → Bool
extends_in octets = not (extension_end octets == header_end octets)

-- the extension of each release that is 7, of the high one first
abbrev pub high_extension_in : List ℕ → Option ℕ
high_extension_in octets =
    extension_if (extends_in octets && is_seven 8 octets) (slice_index octets (extension_end octets))

abbrev pub low_extension_in : List ℕ → Option ℕ
low_extension_in octets =
    extension_if (extends_in octets && is_seven 9 octets)
    (slice_index octets (extension_end octets + one_if (is_seven 8 octets)))

-- the whole header but for its routeing filter and its private extension
unfoldable pub header_in : List ℕ → FileHeader
header_in octets = record (fields_in octets) {
  high_extension = high_extension_in octets;
  low_extension = low_extension_in octets;
}

-- how many octets extend releases: none, or one for each that is 7
abbrev pub release_count : List ℕ → ℕ
release_count octets = if extends_in octets then sevens octets else 0

-- what is wrong with a header, in the order in which it is tested
abbrev pub header_tests : List ℕ → List Test
header_tests octets =
    (record { holds = nat_lt (length octets) least_header; fault = Bad (length octets) kind.Short })
    ∷ (record { holds = not (number_at 4 0 octets == length octets); fault = Bad (length octets) kind.FileLength })
    ∷ (record { holds = nat_lt (header_end octets) least_header || nat_lt (length octets) (header_end octets); fault = Bad 4 kind.HeaderLength })
    ∷ (record { holds = nat_lt (header_end octets) (extension_place octets + 2); fault = Bad 48 kind.Filter })
    ∷ (record {
      holds = not (extension_end octets + release_count octets == header_end octets);
      fault = Bad (extension_place octets) kind.Extension;
    })
    ∷ []

unfoldable pub header_fault : List ℕ → Option FileFault
header_fault octets = first_fault (header_tests octets)

-- a header without a fault
pub record HasHeader (octets : List ℕ) : Type 0 where
  pub least : least_header ≤ length octets
  pub stated : number_at 4 0 octets ≡ length octets
  pub from : least_header ≤ header_end octets
  pub within : header_end octets ≤ length octets
  pub filter : extension_place octets + 2 ≤ header_end octets
  pub extension : extension_end octets + release_count octets ≡ header_end octets

-- The CDRs, of a file in profile 2 where it extends releases.

-- the header of the CDR that octets begin with has an extension
abbrev pub has_extension : Bool → List ℕ → Bool
has_extension extends octets = extends && is_seven 2 octets

-- how many octets the header has
abbrev pub cdr_head : Bool → List ℕ → ℕ
cdr_head extends octets = 4 + one_if (has_extension extends octets)

-- the header
abbrev pub cdr_header_in : Bool → List ℕ → CdrHeader
cdr_header_in extends octets = record {
  length = big_number 2 octets;
  release = high_at 2 octets;
  version = low_at 2 octets;
  format = high_at 3 octets;
  ts = low_at 3 octets;
  extension = extension_if (has_extension extends octets) (slice_index octets 4);
}

-- where the CDR ends
abbrev pub cdr_end : Bool → List ℕ → ℕ
cdr_end extends octets = cdr_head extends octets + big_number 2 octets

-- the CDR
unfoldable pub cdr_in : Bool → List ℕ → Cdr
cdr_in extends octets =
    record {
      header = cdr_header_in extends octets;
      octets = take (big_number 2 octets) (drop (cdr_head extends octets) octets);
    }

-- what is wrong with the CDR that octets from a place of the file on begin with
abbrev pub cdr_tests : Bool → ℕ → List ℕ → List Test
cdr_tests extends place octets =
    (record { holds = nat_lt (length octets) (cdr_head extends octets); fault = Bad place kind.CdrHeader })
    ∷ (record { holds = nat_lt (length octets) (cdr_end extends octets); fault = Bad place kind.CdrCut })
    ∷ []

unfoldable pub cdr_fault : Bool → ℕ → List ℕ → Option FileFault
cdr_fault extends place octets = first_fault (cdr_tests extends place octets)

-- a CDR in front of the others, where they can be read
abbrev pub in_front : Cdr → Result (List Cdr) FileFault → Result (List Cdr) FileFault
in_front cdr (Ok cdrs) = Ok (cdr ∷ cdrs)
in_front cdr (Err fault) = Err fault

-- the CDRs that octets from a place of the file on are, one after the other, or the first fault. There are at most as
-- many as octets
unfoldable pub cdrs_up_to : Bool → ℕ → ℕ → List ℕ → Result (List Cdr) FileFault
cdrs_up_to extends most place [] = Ok []
cdrs_up_to extends zero place (octet ∷ octets) = Err (Bad place kind.CdrHeader)
cdrs_up_to extends (suc most) place (octet ∷ octets) =
    let all = octet ∷ octets in
    let end = cdr_end extends all in
    unless (cdr_fault extends place all)
    (in_front (cdr_in extends all) (cdrs_up_to extends most (place + end) (drop end all)))

abbrev pub cdrs_from : Bool → ℕ → List ℕ → Result (List Cdr) FileFault
cdrs_from extends place octets = cdrs_up_to extends (length octets) place octets

abbrev pub cdrs_in : List ℕ → Result (List Cdr) FileFault
cdrs_in octets = cdrs_from (extends_in octets) (header_end octets) (drop (header_end octets) octets)

-- The file.

abbrev pub count_tests : List ℕ → List Cdr → List Test
count_tests octets cdrs = (record { holds = not (length cdrs == number_at 4 18 octets); fault = Bad 18 kind.Count }) ∷ []

abbrev pub file_with : List ℕ → List Cdr → CdrFile
file_with octets cdrs = record {
  header = header_in octets;
  filter = filter_in octets;
  extension = extension_in octets;
  cdrs = cdrs;
}

abbrev pub with_cdrs : List ℕ → Result (List Cdr) FileFault → Result CdrFile FileFault
with_cdrs octets (Ok cdrs) = unless (first_fault (count_tests octets cdrs)) (Ok (file_with octets cdrs))
with_cdrs octets (Err fault) = Err fault

-- the file that octets are, or its fault
unfoldable pub file_in : List ℕ → Result CdrFile FileFault
file_in octets = unless (header_fault octets) (with_cdrs octets (cdrs_in octets))
