-- Which settings a gateway's files have.
use Rattle.std.specs.Prelude.{◌≤◌, All}
use Rattle.file_rotate.specs.Items.{AreLimits}
use Rattle.file_writer.specs.Streams.{Settings}
use Rattle.jiff_core.specs.Calendar.{IsWithin}
use Rattle.route_filter.specs.Rules.{last_stream}
use Rattle.route_filter.specs.declared.rule.Rule.{Rule}

-- Settings of files as a gateway has them: the limits are in their ranges, its clock is less than 16 hours off UTC, and
-- its rules choose streams that there are.
pub record AreFileSettings (settings : Settings) : Type 0 where
  pub limits : AreLimits settings.limits
  pub offset : IsWithin 959 settings.file.offset
  pub streams : All (λ (rule : Rule). rule.stream ≤ last_stream) settings.rules
