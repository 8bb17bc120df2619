-- The settings of a replay as its code has them, and what the grammar of scripts makes sure of them.
use Rattle.std.specs.Prelude.{◌≡◌, ◌≤◌, ◌^◌, ◌-◌, List, [], length, All, IsSome, IsUtf8}
use Rattle.std.specs.List.{flat_map}
use Rattle.cdr_file.specs.Profile.{IsProfile}
use Rattle.file_rotate.specs.Items.{AreLimits}
use Rattle.gate_journal.specs.Format.{fewest_octets, most_octets}
use Rattle.jiff_core.specs.Calendar.{IsWithin}
use Rattle.route_filter.specs.Rules.{most_rules, rule_of}
use Rattle.route_filter.specs.declared.rule.Rule.{Rule}
use Rattle.world_script.specs.Script.{most_text}
use Rattle.world_script.specs.declared.line.Line.{Line}
use Rattle.world_script.specs.declared.line.Line.TheVariants as line
use Rattle.replay_gateway.specs.Setup.{Setup, rules_said}
use Rattle.replay_gateway.specs.declared.settings.Settings.{Settings}

-- a setting is in its range, and a rule is one, in text
abbrev pub IsInRange : Line → Type 0
IsInRange (line.Reserve length) = (fewest_octets ≤ length) × (length ≤ most_octets)
IsInRange (line.LimitRecords count) = 1 ≤ count
IsInRange (line.LimitSize size) = (1 ≤ size) × (size ≤ 2 ^ 32 - 2 ^ 17)
IsInRange (line.Offset minutes) = IsWithin 959 minutes
IsInRange (line.Profile profile) = IsProfile profile
IsInRange (line.Rule text) = IsSome (rule_of text) × IsUtf8 text
IsInRange (line.Gateways count) = (1 ≤ count) × (count ≤ 255)
IsInRange _ = Unit {0}

-- the rules among lines
abbrev pub rules_in_line : Line → List Rule
rules_in_line (line.Rule text) = rules_said text
rules_in_line _ = []

-- so is each of these lines; there are no more lines than a text may have octets, and no more rules than there may be
pub record AreInRange (lines : List Line) : Type 0 where
  pub each : All IsInRange lines
  pub few : length lines ≤ most_text
  pub rules : length (flat_map rules_in_line lines) ≤ most_rules

-- These are the settings, but for the rules.
pub record AreSet (setup : Setup) (s : Settings) : Type 0 where
  pub gateways : setup.gateways ≡ s.gateways
  pub nodes : setup.nodes ≡ s.nodes
  pub size : setup.size ≡ s.size
  pub limits : setup.limits ≡ s.limits
  pub offset : setup.offset ≡ s.offset
  pub profile : setup.profile ≡ s.profile

-- The area isn't too short or too long, files have limits and a profile, and there is a gateway.
pub record AreSound (s : Settings) : Type 0 where
  pub long : fewest_octets ≤ s.size
  pub short : s.size ≤ most_octets
  pub limits : AreLimits s.limits
  pub profile : IsProfile s.profile
  pub some : 1 ≤ s.gateways
  pub most : s.gateways ≤ 255
