-- Words for steps of the code. No contract of a public call cites them.
use Rattle.std.specs.Prelude.{ℕ, ◌≡◌, true, false, List, [], ◌++◌, length, Option, None, Some}
use Rattle.std.specs.Io.KnownBytes.{Consumes, IsAtEnd}
use Rattle.gateway_book.specs.declared.outcome.Outcome.{Outcome}
use Rattle.gateway_book.specs.declared.outcome.Outcome.TheVariants as outcome
use Rattle.once_core.specs.declared.event.WorldKind.TheVariants.{Earlier}
use Rattle.replay_gateway.specs.Setup.{Setup}
use Rattle.replay_gateway.specs.declared.settings.Settings.{Settings}
use Rattle.route_filter.specs.declared.rule.Rule.{Rule}
use Rattle.cgf_jobs.specs.FeedReport.{Fed, FeedState, drop_line, octets_line}
use Rattle.cgf_jobs.specs.NetworkReport.{HandsBack, lines_run}
use Rattle.cgf_jobs.specs.Run.{end_of, may_have_written, report_of}
use Rattle.cgf_jobs.specs.declared.command.Command.{Command}
use Rattle.cgf_jobs.specs.declared.feed.Feed.{Feed}
use Rattle.cgf_jobs.specs.Kinds.{of_world}
use Rattle.cgf_jobs.specs.declared.report.Refusal.{Refusal}
use Rattle.cgf_jobs.specs.declared.report.Report.{Report}
use Rattle.cgf_jobs.specs.declared.status.Status.{Status}
use Rattle.cgf_jobs.specs.declared.status.Status.TheVariants as status

-- Reading.

-- a piece was taken of an input and appended to a text, and is empty only at the input's end
abbrev pub TakesPiece : Option (List ℕ) → Option (List ℕ) → List ℕ → List ℕ → ℕ → Type 0
TakesPiece left rest before after count =
    (piece : List ℕ) × Consumes left rest piece × (after ≡ before ++ piece) × (length piece ≡ count) × (count ≡ 0 → IsAtEnd rest)

-- Lines.

-- the settings of a network that has them and these rules
abbrev pub setup_seen : Settings → List Rule → Setup
setup_seen s rules = record {
  gateways = s.gateways;
  nodes = s.nodes;
  size = s.size;
  limits = s.limits;
  offset = s.offset;
  profile = s.profile;
  rules = rules;
}

abbrev pub state_of : Feed → FeedState
state_of feed = record { gateway = feed.gateway; now = feed.moment }

-- what is printed for what became of a datagram
abbrev pub outcome_line : Outcome → List ℕ
outcome_line (outcome.Answer receipt) = octets_line receipt.reply
outcome_line (outcome.Drop why) = drop_line why

-- the line with this number that can't be run
abbrev pub refusal_at : Option ℕ → Option Refusal
refusal_at None = None
refusal_at (Some place) = Some (record { place = place; kind = of_world Earlier })

-- a report is what is printed for lines
pub record IsFed (fed : Fed) (report : Report) : Type 0 where
  pub printed : report.printed.items ≡ fed.printed
  pub refused : report.refused ≡ refusal_at fed.refused
  pub played : report.played ≡ None

-- Ends.

-- how the job ends whose report was written
abbrev pub ended_by : Option Refusal → Status
ended_by None = status.Done
ended_by (Some refusal) = status.Input refusal.place refusal.kind

-- what is to be written for an input that the grammar takes, and how the job ends then
pub record IsReport (command : Command) (octets : List ℕ) (report : Report) : Type 0 where
  pub printed : report.printed.items ≡ report_of command octets
  pub ended : ended_by report.refused ≡ end_of command octets
  pub taken : may_have_written (end_of command octets) ≡ true
  pub played : HandsBack (lines_run (end_of command octets) command octets) report.played

-- the grammar refuses an input, and nothing is to be written
pub record IsRefusal (command : Command) (octets : List ℕ) (refusal : Refusal) : Type 0 where
  pub ended : status.Input refusal.place refusal.kind ≡ end_of command octets
  pub none : report_of command octets ≡ []
  pub untaken : may_have_written (end_of command octets) ≡ false
