-- The kind of a packet's records: what the header of each of its CDRs says (3GPP TS 32.297, clause 6.1.2).
use Rattle.std.specs.Prelude.{◌≡◌, ◌≢◌, ℕ, ◌-◌, ◌<◌, ◌/◌, ◌%◌, min, nat_lt, if◌then◌else◌}
use Rattle.gw_base.specs.declared.kind.CdrKind.{CdrKind}

-- a kind that a CDR's header can say: three bits for the release and for the format, five for the version, and an
-- octet for the extension of release 7, the one that has one
pub record IsCdrKind (kind : CdrKind) : Type 0 where
  pub release : kind.release < 8
  pub version : kind.version < 32
  pub format : kind.format < 8
  pub extension : kind.extension < 6
  pub others : kind.release ≢ 7 → kind.extension ≡ 0

-- the release that the low four bits of a format version's first octet stand for: release 99 and all
-- before it are 0, and what three bits can't say is 7
abbrev pub release_of : ℕ → ℕ
release_of digit = if nat_lt 9 digit then 7 else digit - 3

-- how far these bits are above the first value that the release can't say
abbrev pub extension_of : ℕ → ℕ
extension_of digit = digit - 10

-- the kind of the records of a packet of this data record format and format version, a number of two octets
abbrev pub kind_of : ℕ → ℕ → CdrKind
kind_of format version = record {
  release = release_of (version / 256 % 16);
  version = min (version % 256) 31;
  format = min format 7;
  extension = extension_of (version / 256 % 16);
}
