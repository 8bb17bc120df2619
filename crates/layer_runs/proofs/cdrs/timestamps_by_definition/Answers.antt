use Rattle.std.proofs.Common.{refl}
use Rattle.cdr_file.specs.Calendar.{date_from_month, date_from_year, date_since_1969}
use Rattle.cdr_file.specs.Timestamp.{stamp_of}
use Rattle.layer_runs.proofs.cdrs.timestamps_by_definition.Goals as goal

pub returns : goal.returns
unfolding stamp_of date_since_1969 date_from_year date_from_month
returns c = record {
  evening_before = refl;
  midnight = refl;
  day_after = refl;
  furthest_behind = refl;
  a_minute_behind = refl;
  furthest_ahead = refl;
  a_minute_ahead = refl;
}
