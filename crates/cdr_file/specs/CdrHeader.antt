-- The header of a CDR (3GPP TS 32.297, clause 6.1.2), and the CDR after it.
use Rattle.std.specs.Prelude.{◌≡◌, ◌<◌, ◌^◌, ◌==◌, ◌&&◌, Bool, List, ℕ, [], ◌∷◌, ◌++◌, length}
use Rattle.byteorder.specs.Endian.{big_bytes}
use Rattle.cdr_file.specs.declared.cdr_header.CdrHeader.{CdrHeader}
use Rattle.cdr_file.specs.declared.file.Cdr.{Cdr}
use Rattle.cdr_file.specs.Profile.{IsExtension, MayExtend, extension_octets}
use Rattle.cdr_file.specs.SharedOctet.{shared_octet}

-- the length of the CDR in two octets, the high one first, its release and version in one, its format and TS number in
-- one, and the extension of its release in one, if there is one
abbrev pub least_cdr_octets : CdrHeader → List ℕ
least_cdr_octets header =
    big_bytes 2 header.length
    ++ shared_octet header.release header.version ∷ []
    ++ shared_octet header.format header.ts ∷ []

unfoldable pub cdr_header_octets : CdrHeader → List ℕ
cdr_header_octets header = least_cdr_octets header ++ extension_octets header.extension

-- each number of a header fits its field
pub record IsCdrHeader (header : CdrHeader) : Type 0 where
  pub length : header.length < 2 ^ 16
  pub release : header.release < 8
  pub version : header.version < 32
  pub format : header.format < 8
  pub ts : header.ts < 32
  pub extension : MayExtend header.release header.extension

-- the octets of a CDR: its header, and what comes after it
abbrev pub spelled_cdr : Cdr → List ℕ
spelled_cdr cdr = cdr_header_octets cdr.header ++ cdr.octets

-- the header of a CDR has an extension: where its file has extensions (profile 2), for release 7
abbrev pub is_extended_cdr : Bool → CdrHeader → Bool
is_extended_cdr extends header = extends && (header.release == 7)

-- a CDR has as many octets as its header says, and an extension where it should
pub record IsCdr (extends : Bool) (cdr : Cdr) : Type 0 where
  pub header : IsCdrHeader cdr.header
  pub extension : IsExtension (is_extended_cdr extends cdr.header) cdr.header.extension
  pub stated : cdr.header.length ≡ length cdr.octets

abbrev pub AreCdrs : Bool → List Cdr → Type 0
AreCdrs extends [] = Unit {0}
AreCdrs extends (cdr ∷ cdrs) = IsCdr extends cdr × AreCdrs extends cdrs
