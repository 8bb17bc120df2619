-- The listing of a CDR file: a line for its header, one for its routeing filter and one for its private extension where these
-- aren't empty, and one for each CDR.
use Rattle.std.specs.Prelude.{ℕ, ◌+◌, ◌/◌, ◌%◌, ◌==◌, if◌then◌else◌, List, [], ◌∷◌, ◌++◌, Option, None, Some, codes}
use Rattle.std.specs.Fmt.{decimal}
use Rattle.std.specs.List.{flat_map}
use Rattle.hex.specs.Hex.{encode_upper}
use Rattle.cdr_file.specs.Timestamp.{fields_of}
use Rattle.cdr_file.specs.declared.file.Cdr.{Cdr}
use Rattle.cdr_file.specs.declared.file.CdrFile.{CdrFile}
use Rattle.cdr_file.specs.declared.file_header.FileHeader.{FileHeader}
use Rattle.cdr_file.specs.declared.stamp_fields.StampFields.{StampFields}

-- words, each after a space
abbrev pub words : List (List ℕ) → List ℕ
words texts = flat_map (λ text. 32 ∷ text) texts

-- a line of words
abbrev pub line : List ℕ → List (List ℕ) → List ℕ
line name texts = name ++ (words texts ++ 10 ∷ [])

-- a number below 100, in two digits
abbrev pub two_digits : ℕ → List ℕ
two_digits n = (48 + n / 10) ∷ (48 + n % 10) ∷ []

-- plus where the bit is 1, minus where it is 0
abbrev pub sign_text : ℕ → ℕ
sign_text sign = if sign == 1 then 43 else 45

-- MM-DD/HH:MM/+HH:MM
abbrev pub fields_text : StampFields → List ℕ
fields_text fields =
    two_digits fields.month ++ codes "-" ++ two_digits fields.day
    ++ codes "/" ++ two_digits fields.hour ++ codes ":" ++ two_digits fields.minute
    ++ codes "/" ++ sign_text fields.sign ∷ two_digits fields.offset_hours ++ codes ":" ++ two_digits fields.offset_minutes

unfoldable pub stamp_text : ℕ → List ℕ
stamp_text stamp = fields_text (fields_of stamp)

-- a plus and the extension of a release, where there is one
abbrev pub extension_text : Option ℕ → List ℕ
extension_text None = []
extension_text (Some extension) = 43 ∷ decimal extension

-- a release, with its extension where it has one, and a version in it
abbrev pub release_text : ℕ → Option ℕ → ℕ → List ℕ
release_text release extension version = decimal release ++ (extension_text extension ++ (46 ∷ decimal version))

-- the line of a header
abbrev pub file_line : FileHeader → List ℕ
file_line header = line (codes "file")
    (decimal header.length
    ∷ decimal header.header_length
    ∷ release_text header.high_release header.high_extension header.high_version
    ∷ release_text header.low_release header.low_extension header.low_version
    ∷ stamp_text header.opened
    ∷ stamp_text header.appended
    ∷ decimal header.count
    ∷ decimal header.sequence
    ∷ decimal header.reason
    ∷ encode_upper header.address
    ∷ decimal header.lost
    ∷ [])

-- the line of octets that a header may have, if there are any
abbrev pub extra_line : List ℕ → List ℕ → List ℕ
extra_line name [] = []
extra_line name (octet ∷ octets) = line name (encode_upper (octet ∷ octets) ∷ [])

-- the octets of a CDR, which may be none
abbrev pub octets_text : List ℕ → List ℕ
octets_text [] = codes "-"
octets_text (octet ∷ octets) = encode_upper (octet ∷ octets)

-- the line of the CDR with a number, from 1
abbrev pub cdr_line : ℕ → Cdr → List ℕ
cdr_line number cdr = line (codes "cdr")
    (decimal number
    ∷ decimal cdr.header.length
    ∷ release_text cdr.header.release cdr.header.extension cdr.header.version
    ∷ decimal cdr.header.format
    ∷ decimal cdr.header.ts
    ∷ octets_text cdr.octets
    ∷ [])

-- the lines of CDRs, the first of which has this number
abbrev pub cdr_lines : ℕ → List Cdr → List ℕ
cdr_lines number [] = []
cdr_lines number (cdr ∷ cdrs) = cdr_line number cdr ++ cdr_lines (number + 1) cdrs

-- the lines in front of those of the CDRs
abbrev pub head_lines : CdrFile → List ℕ
head_lines file = file_line file.header ++ (extra_line (codes "filter") file.filter ++ extra_line (codes "extension") file.extension)

-- the listing of a file
abbrev pub listing : CdrFile → List ℕ
listing file = head_lines file ++ cdr_lines 1 file.cdrs
