-- How filed records are dealt to streams, and the records of each stream to CDR files (3GPP TS 32.297, clause 6.1.1).
-- Sixteen streams, and rules that choose among them, are this project's own.
use Rattle.std.specs.Prelude.{ℕ, ◌==◌, Bool, true, false, List, [], ◌∷◌, length}
use Rattle.std.specs.List.{flat_map}
use Rattle.cdr_file.specs.CdrFile.{FileSettings}
use Rattle.cdr_file.specs.Profile.{in_profile}
use Rattle.file_rotate.specs.Division.{Division, division_of}
use Rattle.file_rotate.specs.Items.{Filed, Record, Tick, Close}
use Rattle.file_rotate.specs.Items as stream
use Rattle.file_rotate.specs.declared.limits.Limits.{Limits}
use Rattle.gw_base.specs.declared.item.Item.{Item}
use Rattle.gw_base.specs.declared.item.Item.TheVariants as item
use Rattle.gw_base.specs.declared.kind.CdrKind.{CdrKind}
use Rattle.route_filter.specs.Rules.{stream_of}
use Rattle.route_filter.specs.declared.rule.Rule.{Rule}

-- how many streams there are: they are numbered from 0
abbrev pub stream_count : ℕ
stream_count = 16

-- what decides which record goes into which file, the profile of the files, and what their headers say
pub record Settings : Type 0 where
  pub rules : List Rule
  pub limits : Limits
  pub profile : ℕ
  pub file : FileSettings

-- a record as its stream has it: in the form of a profile, with its octets
abbrev pub stream_record : ℕ → CdrKind → List ℕ → ℕ → Filed (List ℕ)
stream_record profile kind octets moment =
    record { kind = in_profile profile kind; octets = length octets; moment = moment; payload = octets }

abbrev pub record_if : Bool → Filed (List ℕ) → List (stream.Item (List ℕ))
record_if true filed = Record filed ∷ []
record_if false filed = []

-- what a stream has of an item: a record that the rules send there, and every mark
abbrev pub stream_item : ℕ → List Rule → ℕ → Item → List (stream.Item (List ℕ))
stream_item profile rules s (item.Part kind tag octets moment) =
    record_if (stream_of rules tag kind.format == s) (stream_record profile kind octets moment)
stream_item profile rules s (item.Tick moment) = Tick moment ∷ []
stream_item profile rules s (item.Close moment) = Close moment ∷ []

-- what a stream has of a list of items, in their order
abbrev pub stream_items : ℕ → List Rule → ℕ → List Item → List (stream.Item (List ℕ))
stream_items profile rules s items = flat_map (stream_item profile rules s) items

-- the runs of records that are the files of a stream, and the run that is left open
abbrev pub stream_division : Settings → ℕ → List Item → Division (List ℕ)
stream_division settings s items = division_of settings.limits (stream_items settings.profile settings.rules s items)

-- how many files of a stream are closed
abbrev pub closed_of : Settings → ℕ → List Item → ℕ
closed_of settings s items = length (stream_division settings s items).closed
