-- The header of a CDR file (3GPP TS 32.297, clause 6.1.1).
use Rattle.std.specs.Prelude.{◌≡◌, ◌<◌, ◌^◌, ◌==◌, ◌&&◌, ◌||◌, ℕ, Bool, List, [], ◌∷◌, ◌++◌, Option, length, is_some}
use Rattle.byteorder.specs.Endian.{big_bytes}
use Rattle.cdr_file.specs.declared.file_header.FileHeader.{FileHeader}
use Rattle.cdr_file.specs.Profile.{IsExtension, extension_octets}
use Rattle.cdr_file.specs.SharedOctet.{shared_octet}

-- how many octets a header has that has neither a routeing filter nor any extension
abbrev pub least_header : ℕ
least_header = 52

-- the fields that every header has, one after the other, each number with its high octet first
unfoldable pub field_octets : FileHeader → List ℕ
field_octets header =
    big_bytes 4 header.length
    ++ big_bytes 4 header.header_length
    ++ shared_octet header.high_release header.high_version ∷ []
    ++ shared_octet header.low_release header.low_version ∷ []
    ++ big_bytes 4 header.opened
    ++ big_bytes 4 header.appended
    ++ big_bytes 4 header.count
    ++ big_bytes 4 header.sequence
    ++ header.reason ∷ []
    ++ header.address
    ++ header.lost ∷ []

-- octets after their number, which stands in two
abbrev pub with_length : List ℕ → List ℕ
with_length octets = big_bytes 2 (length octets) ++ octets

-- a header with its routeing filter and its private extension, but without the extensions of its releases
abbrev pub plain_header : FileHeader → List ℕ → List ℕ → List ℕ
plain_header header filter extension = field_octets header ++ (with_length filter ++ with_length extension)

-- the extensions of its releases, of the high one first
abbrev pub release_octets : FileHeader → List ℕ
release_octets header = extension_octets header.high_extension ++ extension_octets header.low_extension

-- a header with all of these
abbrev pub header_with : FileHeader → List ℕ → List ℕ → List ℕ
header_with header filter extension = plain_header header filter extension ++ release_octets header

-- a header with neither filter nor private extension
unfoldable pub header_octets : FileHeader → List ℕ
header_octets header = header_with header [] []

-- a file whose header has the extension of a release has those of all (profile 2)
abbrev pub extends : FileHeader → Bool
extends header = is_some header.high_extension || is_some header.low_extension

-- a release of a header has an extension just where it should: where the file extends releases, and it is 7
abbrev pub IsExtended : FileHeader → ℕ → Option ℕ → Type 0
IsExtended header release extension = IsExtension (extends header && (release == 7)) extension

-- each number of a header fits its field, and either no release has an extension, or those that are 7
pub record IsFileHeader (header : FileHeader) : Type 0 where
  pub address : length header.address ≡ 20
  pub file_length : header.length < 2 ^ 32
  pub header_length : header.header_length < 2 ^ 32
  pub high : (header.high_release < 8) × (header.high_version < 32)
  pub low : (header.low_release < 8) × (header.low_version < 32)
  pub stamps : (header.opened < 2 ^ 32) × (header.appended < 2 ^ 32)
  pub count : header.count < 2 ^ 32
  pub sequence : header.sequence < 2 ^ 32
  pub octets : (header.reason < 256) × (header.lost < 256)
  pub high_extension : IsExtended header header.high_release header.high_extension
  pub low_extension : IsExtended header header.low_release header.low_extension
