-- The octets of a whole CDR file (3GPP TS 32.297, clause 6.1), for a run of records of one kind.
use Rattle.std.specs.Prelude.{ℕ, ◌+◌, List, [], ◌∷◌, ◌++◌, ℤ, None, length, map, replicate, sum_by}
use Rattle.std.specs.List.{flat_map}
use Rattle.byteorder.specs.Endian.{big_bytes}
use Rattle.cdr_file.specs.declared.cdr_header.CdrHeader.{CdrHeader}
use Rattle.cdr_file.specs.declared.file.Cdr.{Cdr}
use Rattle.cdr_file.specs.declared.file.CdrFile.{CdrFile}
use Rattle.cdr_file.specs.declared.closure.ClosureReason.{ClosureReason}
use Rattle.cdr_file.specs.declared.file_header.FileHeader.{FileHeader}
use Rattle.cdr_file.specs.declared.filed_kind.FiledKind.{FiledKind}
use Rattle.cdr_file.specs.declared.run.RunFacts.{RunFacts}
use Rattle.cdr_file.specs.CdrHeader.{spelled_cdr}
use Rattle.cdr_file.specs.ClosureReason.{code_of}
use Rattle.cdr_file.specs.FileHeader.{header_octets}
use Rattle.cdr_file.specs.Profile.{extension_octets}
use Rattle.cdr_file.specs.Timestamp.{stamp_of}

-- a record that goes into a file: its kind in the form of the file's profile, its octets, and the moment at which it
-- was filed
pub record FiledRecord : Type 0 where
  pub kind : FiledKind
  pub octets : List ℕ
  pub moment : ℕ

-- how many minutes the gateway's clock is ahead of UTC, and the gateway's IPv4 address
pub record FileSettings : Type 0 where
  pub offset : ℤ
  pub address : ℕ

-- the header of the CDR that a record becomes
abbrev pub cdr_header : FiledRecord → CdrHeader
cdr_header filed = record {
  length = length filed.octets;
  release = filed.kind.release;
  version = filed.kind.version;
  format = filed.kind.format;
  ts = 0;
  extension = filed.kind.extension;
}

-- the CDR that a record becomes
abbrev pub cdr_of : FiledRecord → Cdr
cdr_of filed = record { header = cdr_header filed; octets = filed.octets }

-- its octets
abbrev pub cdr_octets : FiledRecord → List ℕ
cdr_octets filed = spelled_cdr (cdr_of filed)

-- the CDRs of a run, one after the other
abbrev pub run_octets : List FiledRecord → List ℕ
run_octets run = flat_map cdr_octets run

-- how many octets the header of a CDR of a kind has
abbrev pub cdr_header_length : FiledKind → ℕ
cdr_header_length kind = 4 + length (extension_octets kind.extension)

-- how many octets the header of a file of CDRs of a kind has: both of its releases are that of the kind
abbrev pub header_length : FiledKind → ℕ
header_length kind = 52 + (length (extension_octets kind.extension) + length (extension_octets kind.extension))

-- how many octets the CDR of a record has
abbrev pub cdr_length : FiledRecord → ℕ
cdr_length filed = cdr_header_length filed.kind + length filed.octets

-- the kind of a run is that of its first record, and so of each. A file begins with its first record: no file has an
-- empty run, for which any value would do here and below
abbrev pub run_kind : List FiledRecord → FiledKind
run_kind [] = record { release = 0; version = 0; format = 0; extension = None }
run_kind (first ∷ _) = first.kind

-- a file is opened at the moment of its first record
abbrev pub opening_moment : List FiledRecord → ℕ
opening_moment [] = 0
opening_moment (first ∷ _) = first.moment

-- and appended to for the last time at that of its last
abbrev pub last_moment : List FiledRecord → ℕ
last_moment [] = 0
last_moment (last ∷ []) = last.moment
last_moment (_ ∷ (next ∷ later)) = last_moment (next ∷ later)

-- how many octets the file of a run has
abbrev pub file_length : List FiledRecord → ℕ
file_length run = header_length (run_kind run) + sum_by cdr_length run

-- the address of a node that has an IPv4 address: it as an IPv6 address (RFC 4291, section 2.5.5.2), filled up with
-- zeros to 20 octets
unfoldable pub node_address : ℕ → List ℕ
node_address ip = replicate 10 0 ++ 255 ∷ 255 ∷ [] ++ big_bytes 4 ip ++ replicate 4 0

-- what the header of the file of a run says of its records
abbrev pub facts_of : List FiledRecord → RunFacts
facts_of run = record {
  kind = run_kind run;
  opened = opening_moment run;
  appended = last_moment run;
  count = length run;
  octets = sum_by cdr_length run;
}

-- the same of one record, and of one record more
abbrev pub facts_of_one : FiledRecord → RunFacts
facts_of_one filed = record { kind = filed.kind; opened = filed.moment; appended = filed.moment; count = 1; octets = cdr_length filed }

abbrev pub facts_with : RunFacts → FiledRecord → RunFacts
facts_with run last = record run { appended = last.moment; count = run.count + 1; octets = run.octets + cdr_length last }

-- the header that says this of its records
abbrev pub header_of : RunFacts → ℕ → ClosureReason → FileSettings → FileHeader
header_of run sequence reason settings = record {
  length = header_length run.kind + run.octets;
  header_length = header_length run.kind;
  high_release = run.kind.release;
  high_version = run.kind.version;
  low_release = run.kind.release;
  low_version = run.kind.version;
  opened = stamp_of run.opened settings.offset;
  appended = stamp_of run.appended settings.offset;
  count = run.count;
  sequence = sequence;
  reason = code_of reason;
  address = node_address settings.address;
  lost = 0;
  high_extension = run.kind.extension;
  low_extension = run.kind.extension;
}

-- the header of the file of a run
abbrev pub file_header : List FiledRecord → ℕ → ClosureReason → FileSettings → FileHeader
file_header run sequence reason settings = header_of (facts_of run) sequence reason settings

-- the octets of a file: its header, and then the CDRs of the run
abbrev pub file_octets : List FiledRecord → ℕ → ClosureReason → FileSettings → List ℕ
file_octets run sequence reason settings =
    header_octets (file_header run sequence reason settings) ++ run_octets run

-- what is read of the file of a run
abbrev pub read_file : List FiledRecord → ℕ → ClosureReason → FileSettings → CdrFile
read_file run sequence reason settings = record {
  header = file_header run sequence reason settings;
  filter = [];
  extension = [];
  cdrs = map cdr_of run;
}
