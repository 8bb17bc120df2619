-- What a replay reports: the sealed files and the counts of each gateway, and the counts of each node; and all that a
-- script prints.
use Rattle.std.specs.Prelude.{ℕ, suc, Bool, true, false, List, [], ◌∷◌, ◌++◌, length, Option, Some, None, codes}
use Rattle.std.specs.Fmt.{decimal}
use Rattle.std.specs.List.{enumerate_from, flat_map}
use Rattle.node_core.specs.Counting.{counts_of}
use Rattle.node_core.specs.Log.{LogEntry}
use Rattle.node_core.specs.declared.counts.NodeCounts.{NodeCounts}
use Rattle.once_core.specs.Turn.{Turn}
use Rattle.once_core.specs.World.{node_value}
use Rattle.once_core.specs.declared.event.WorldKind.{WorldKind}
use Rattle.replay_gateway.specs.GatewayReport.{gateway_text}
use Rattle.replay_world.specs.Lines.{line_after, line_notices, refusal_of_line, turns_of}
use Rattle.replay_world.specs.Notices.{notice_lines}
use Rattle.replay_world.specs.Steps.{site_in, Site}
use Rattle.replay_world.specs.Value.{ReplayValue, replay_of}
use Rattle.world_script.specs.Script.{is_end_line}
use Rattle.world_script.specs.declared.line.Line.{Line}

-- The lines of the gateway in a place, if there is one.

abbrev pub site_lines : ReplayValue → Option Site → List ℕ
site_lines v None = []
site_lines v (Some site) = gateway_text v.setup site.place site.gateway site.machine

abbrev pub gateway_lines : ReplayValue → ℕ → List ℕ
gateway_lines v place = site_lines v (site_in v place)

-- A node's counts.

abbrev pub node_text : ℕ → NodeCounts → List ℕ
node_text place counts =
    codes "node " ++ decimal (suc place) ++ codes " packets " ++ decimal counts.packets
    ++ codes " resolved " ++ decimal counts.resolved ++ codes " done " ++ decimal counts.done ++ 10 ∷ []

abbrev pub node_line : ℕ → ℕ → List LogEntry → List ℕ
node_line gateways place log = node_text place (counts_of (node_value gateways place log))

-- all gateways, and then all nodes
abbrev pub report_of : ReplayValue → List ℕ
report_of v =
    flat_map (λ g. gateway_lines v g.0) (enumerate_from 0 v.world.gateways)
    ++ flat_map (λ n. node_line (length v.world.gateways) n.0 n.1) (enumerate_from 0 v.world.nodes)

-- What lines print.

-- the report follows an `end`
abbrev pub report_after : Bool → ReplayValue → List ℕ
report_after true v = report_of v
report_after false v = []

abbrev pub line_text : ReplayValue → Line → List ℕ
line_text v said = notice_lines (line_notices v said) ++ report_after (is_end_line said) (line_after v said)

-- the first line that the world refuses, by its place from 1, and what the lines before it print
pub record Refusal : Type 0 where
  pub place : ℕ
  pub kind : WorldKind

-- what is printed from a line on, unless the world refuses it
abbrev pub printed_unless : Option WorldKind → List ℕ → List ℕ
printed_unless None printed = printed
printed_unless (Some kind) printed = []

abbrev pub printed_by : ReplayValue → List Line → List ℕ
printed_by v [] = []
printed_by v (said ∷ later) =
    printed_unless (refusal_of_line v said) (line_text v said ++ printed_by (line_after v said) later)

abbrev pub refused_or : Option WorldKind → ℕ → Option Refusal → Option Refusal
refused_or None place later = later
refused_or (Some kind) place later = Some (record { place = place; kind = kind })

abbrev pub refused_from : ℕ → ReplayValue → List Line → Option Refusal
refused_from place v [] = None
refused_from place v (said ∷ later) =
    refused_or (refusal_of_line v said) place (refused_from (suc place) (line_after v said) later)

-- the replay after lines, and the turns of the world that they are
abbrev pub lines_after : ReplayValue → List Line → ReplayValue
lines_after v [] = v
lines_after v (said ∷ later) = lines_after (line_after v said) later

abbrev pub turns_from : ReplayValue → List Line → List Turn
turns_from v [] = []
turns_from v (said ∷ later) = turns_of v said ++ turns_from (line_after v said) later

-- A script: the replay after its lines, all that they print, the line that is refused, and the turns of the world that
-- it is.

abbrev pub replayed : List Line → ReplayValue
replayed lines = lines_after (replay_of lines) lines

abbrev pub report_of_lines : List Line → List ℕ
report_of_lines lines = printed_by (replay_of lines) lines

abbrev pub refusal_of_lines : List Line → Option Refusal
refusal_of_lines lines = refused_from 1 (replay_of lines) lines

abbrev pub turns_of_lines : List Line → List Turn
turns_of_lines lines = turns_from (replay_of lines) lines
