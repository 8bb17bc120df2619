-- What the settings of a script say of a replay. A setting that is given again replaces the one before it, and rules
-- are added.
use Rattle.std.specs.Prelude.{ℕ, ℤ, pos, true, List, [], ◌∷◌, ◌++◌}
use Rattle.std.specs.Option.{option_map_or}
use Rattle.file_rotate.specs.declared.limits.Limits.{Limits}
use Rattle.file_writer.specs.Streams.{Settings}
use Rattle.gateway_answer.specs.Answer.{may_record}
use Rattle.gateway_answer.specs.Answered.{room_for}
use Rattle.gateway_answer.specs.Value.{is_batch_full}
use Rattle.gw_base.specs.Observed.{observed}
use Rattle.once_core.specs.Addresses.{gateway_address}
use Rattle.once_core.specs.Beginning.{default_open_time, default_size}
use Rattle.once_core.specs.Gateway.{Rules}
use Rattle.route_filter.specs.Rules.{rule_of}
use Rattle.route_filter.specs.declared.rule.Rule.{Rule}
use Rattle.world_script.specs.declared.line.Line.{Line}
use Rattle.world_script.specs.declared.line.Line.TheVariants as line

-- how many gateways and nodes there are, how many octets each gateway's journal has, and what decides the gateways'
-- files: the limits, the offset of local time from UTC in minutes, the profile, and the rules
pub record Setup : Type 0 where
  pub gateways : ℕ
  pub nodes : ℕ
  pub size : ℕ
  pub limits : Limits
  pub offset : ℤ
  pub profile : ℕ
  pub rules : List Rule

abbrev pub default_limits : Limits
default_limits = record { size = 1048576; count = 1000; open_time = default_open_time }

abbrev pub default_setup : Setup
default_setup = record {
  gateways = 1;
  nodes = 1;
  size = default_size;
  limits = default_limits;
  offset = pos 0;
  profile = 1;
  rules = [];
}

-- the rule that a line says
abbrev pub rules_said : List ℕ → List Rule
rules_said text = option_map_or (λ rule. rule ∷ []) (rule_of text) []

-- the settings after a line
abbrev pub after_setting : Setup → Line → Setup
after_setting s (line.Reserve length) = record s { size = length }
after_setting s (line.LimitRecords count) = record s { limits = record s.limits { count = count } }
after_setting s (line.LimitSize size) = record s { limits = record s.limits { size = size } }
after_setting s (line.LimitOpen seconds) = record s { limits = record s.limits { open_time = seconds } }
after_setting s (line.Offset minutes) = record s { offset = minutes }
after_setting s (line.Profile profile) = record s { profile = profile }
after_setting s (line.Rule text) = record s { rules = s.rules ++ rules_said text }
after_setting s (line.Gateways count) = record s { gateways = count }
after_setting s (line.Nodes count) = record s { nodes = count }
after_setting s _ = s

abbrev pub after_settings : Setup → List Line → Setup
after_settings s [] = s
after_settings s (said ∷ lines) = after_settings (after_setting s said) lines

-- what the settings among some lines say
abbrev pub setup_of : List Line → Setup
setup_of lines = after_settings default_setup lines

-- what they decide in the world
abbrev pub rules_in : Setup → Rules
rules_in s = record {
  may = λ h node act. may_record (observed h node) (room_for h s.size) act;
  room = λ h act. room_for h s.size act;
  may_close = λ h. true;
  is_full = is_batch_full;
  open_time = s.limits.open_time;
}

-- what they decide of the files of the gateway in this place
abbrev pub files_in : Setup → ℕ → Settings
files_in s place = record {
  rules = s.rules;
  limits = s.limits;
  profile = s.profile;
  file = record { offset = s.offset; address = (gateway_address place).ip };
}
