use Rattle.std.proofs.Common.{refl}
use Rattle.cdr_file.specs.Calendar.{date_from_month, date_from_year, date_since_1969}
use Rattle.cdr_file.specs.CdrFile.{node_address}
use Rattle.cdr_file.specs.CdrHeader.{cdr_header_octets}
use Rattle.cdr_file.specs.FileHeader.{field_octets, header_octets}
use Rattle.cdr_file.specs.Timestamp.{stamp_of}
use Rattle.layer_runs.proofs.cdrs.one_cdr_by_definition.Goals as goal

pub returns : goal.returns
unfolding header_octets field_octets cdr_header_octets node_address stamp_of date_since_1969 date_from_year date_from_month
returns c = record {
  profile_1 = refl;
  profile_2 = refl;
}
