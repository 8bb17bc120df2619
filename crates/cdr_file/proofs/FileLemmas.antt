-- How many octets a file and its parts have, and how a file grows by a record.
use Rattle.std.proofs.Common.{◌≡◌, ℕ, ◌+◌, ◌<◌, ◌^◌, ◌∙◌, sym, drop, List, [], ◌∷◌, ◌++◌, length, length-append, refl, ap, append_assoc, arith}
use Rattle.std.proofs.lemmas.Grind.{flat_map-append}
use Rattle.std.proofs.lemmas.List.{append-nil}
use Rattle.byteorder.specs.Endian.{big_bytes, big_number}
use Rattle.byteorder.specs.Numbers.{big_number-reads_back}
use Rattle.cdr_file.specs.declared.closure.ClosureReason.{ClosureReason}
use Rattle.cdr_file.specs.declared.file_header.FileHeader.{FileHeader}
use Rattle.cdr_file.specs.Laws.{length-run_octets}
use Rattle.cdr_file.specs.FileHeader.{field_octets, header_octets, plain_header, release_octets, with_length}
use Rattle.cdr_file.specs.Profile.{extension_octets}
use Rattle.cdr_file.specs.SharedOctet.{shared_octet}
use Rattle.cdr_file.specs.CdrFile.{FiledRecord, FileSettings, cdr_octets, file_header, file_length, file_octets, last_moment, node_address, run_octets}

-- the fields have 48
pub length-field_octets : (header : FileHeader) → length header.address ≡ 20 → length (field_octets header) ≡ 48
unfolding field_octets
length-field_octets header h =
    omega (arith, length-append header.address (header.lost ∷ []))

-- a file's header has 52, and those of its releases' extensions
pub length-header_octets : (header : FileHeader) → length header.address ≡ 20 →
    length (header_octets header) ≡ 52 + (length (extension_octets header.high_extension) + length (extension_octets header.low_extension))
unfolding header_octets
length-header_octets header h =
    omega (
      arith,
      length-field_octets header h,
      length-append (field_octets header) (with_length [] ++ with_length []),
      length-append (plain_header header [] []) (release_octets header),
      length-append (extension_octets header.high_extension) (extension_octets header.low_extension),
    )

-- a header is what each has, and then the extensions of its releases
pub header_joined : (header : FileHeader) →
    (plain_header header [] [] ++ extension_octets header.high_extension) ++ extension_octets header.low_extension ≡ header_octets header
unfolding header_octets
header_joined header = append_assoc (plain_header header [] []) (extension_octets header.high_extension) (extension_octets header.low_extension)

-- the fields of a header that has neither filter nor extension, and four zeros
pub plain_header-is : (header : FileHeader) → plain_header header [] []
    ≡ big_bytes 4 header.length
    ++ big_bytes 4 header.header_length
    ++ shared_octet header.high_release header.high_version ∷ []
    ++ shared_octet header.low_release header.low_version ∷ []
    ++ big_bytes 4 header.opened
    ++ big_bytes 4 header.appended
    ++ big_bytes 4 header.count
    ++ big_bytes 4 header.sequence
    ++ header.reason ∷ []
    ++ header.address
    ++ (header.lost ∷ 0 ∷ 0 ∷ 0 ∷ 0 ∷ [])
unfolding field_octets
plain_header-is header =
    ap (λ (rest : List ℕ). big_bytes 4 header.length
    ++ big_bytes 4 header.header_length
    ++ shared_octet header.high_release header.high_version ∷ []
    ++ shared_octet header.low_release header.low_version ∷ []
    ++ big_bytes 4 header.opened
    ++ big_bytes 4 header.appended
    ++ big_bytes 4 header.count
    ++ big_bytes 4 header.sequence
    ++ header.reason ∷ []
    ++ rest) (append_assoc header.address (header.lost ∷ []) (0 ∷ 0 ∷ 0 ∷ 0 ∷ []))

-- the address of a node has 20
pub length-node_address : (ip : ℕ) → length (node_address ip) ≡ 20
unfolding node_address
length-node_address ip = refl

-- the length that a file's header says is that of the whole file
pub length-file_octets : (run : List FiledRecord) (sequence : ℕ) (reason : ClosureReason) (settings : FileSettings) → length (file_octets run sequence reason settings) ≡ file_length run
length-file_octets run sequence reason settings =
    let header = file_header run sequence reason settings in
    omega (arith, length-append (header_octets header) (run_octets run), length-header_octets header (length-node_address settings.address), length-run_octets run)

-- so the first four octets say it, where they can
pub first_octets : (run : List FiledRecord) (sequence : ℕ) (reason : ClosureReason) (settings : FileSettings) → length (file_octets run sequence reason settings) < 2 ^ 32
    → big_number 4 (file_octets run sequence reason settings) ≡ length (file_octets run sequence reason settings)
unfolding header_octets field_octets
first_octets run sequence reason settings small =
    let whole = length-file_octets run sequence reason settings in
    big_number-reads_back 4 (file_length run) (drop 4 (file_octets run sequence reason settings)) (omega (arith, whole, small)) ∙ sym whole

-- one record more is one CDR more at the end
pub run_octets-append : (run : List FiledRecord) (last : FiledRecord) → run_octets (run ++ last ∷ []) ≡ run_octets run ++ cdr_octets last
run_octets-append run last = rw (flat_map-append, append-nil)

-- and a file was appended to at the moment of its last record
pub last_moment-append : (run : List FiledRecord) (last : FiledRecord) → last_moment (run ++ last ∷ []) ≡ last.moment
last_moment-append (first ∷ (next ∷ later)) last = last_moment-append (next ∷ later) last
last_moment-append _ last = refl
