-- Which octets are a CDR file (3GPP TS 32.297, clause 6.1).
use Rattle.std.specs.Prelude.{◌≡◌, ◌<◌, ◌^◌, ℕ, List, ◌++◌, length, get_or}
use Rattle.std.specs.List.{flat_map}
use Rattle.cdr_file.specs.declared.file.CdrFile.{CdrFile}
use Rattle.cdr_file.specs.CdrHeader.{AreCdrs, spelled_cdr}
use Rattle.cdr_file.specs.FileHeader.{IsFileHeader, extends, header_with}

-- numbers that are octets
abbrev pub AreOctets : List ℕ → Type 0
AreOctets octets = (k : ℕ) → get_or octets k 0 < 256

-- the header of a file, with its routeing filter and its private extension, and then its CDRs
abbrev pub spelled_file : CdrFile → List ℕ
spelled_file file = header_with file.header file.filter file.extension ++ flat_map spelled_cdr file.cdrs

-- what a file says of itself is true
pub record IsFile (file : CdrFile) : Type 0 where
  pub header : IsFileHeader file.header
  pub cdrs : AreCdrs (extends file.header) file.cdrs
  pub filter : length file.filter < 2 ^ 16
  pub extension : length file.extension < 2 ^ 16
  pub file_length : file.header.length ≡ length (spelled_file file)
  pub header_length : file.header.header_length ≡ length (header_with file.header file.filter file.extension)
  pub count : file.header.count ≡ length file.cdrs

-- the octets are this file
pub record Spells (file : CdrFile) (octets : List ℕ) : Type 0 where
  pub is_file : IsFile file
  pub spelled : octets ≡ spelled_file file
