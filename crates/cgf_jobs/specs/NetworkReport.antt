-- What `replay`, `sample` and `drill` print, and what a network that was run hands back.
use Rattle.std.specs.Prelude.{ℕ, ◌≡◌, ◌++◌, List, [], Option, Some, None, IsSomeAnd, Result, Ok, Err}
use Rattle.once_core.specs.StandsOnce.{StandsOnce}
use Rattle.replay_world.specs.Report.{refusal_of_lines, replayed, report_of, report_of_lines}
use Rattle.replay_world.specs.Report.{Refusal as WorldRefusal}
use Rattle.replay_world.specs.Settled.{AreRead, AreWritten, HasPlayedOut, StandInFiles}
use Rattle.replay_gateway.specs.Setup.{files_in, setup_of}
use Rattle.replay_world.specs.Summary.{summary_of, summary_text}
use Rattle.replay_world.specs.declared.replay.Played.{Played}
use Rattle.world_script.specs.Printing.{printed}
use Rattle.world_script.specs.Sample.{sample_of}
use Rattle.world_script.specs.Script.{Refusal as LineRefusal, script_in}
use Rattle.world_script.specs.declared.kind.ScriptKind.TheVariants as kind
use Rattle.world_script.specs.declared.line.Line.{Line}
use Rattle.cgf_jobs.specs.Command.{command_of, extent_of}
use Rattle.cgf_jobs.specs.declared.command.Command.{Command}
use Rattle.cgf_jobs.specs.declared.command.Command.TheVariants.{Feed, Show, Replay, Sample, Drill}
use Rattle.cgf_jobs.specs.declared.command.Seeded.{Seeded}
use Rattle.cgf_jobs.specs.Kinds.{of_line, of_world}
use Rattle.cgf_jobs.specs.declared.status.Status.{Status}
use Rattle.cgf_jobs.specs.declared.status.Status.TheVariants as status

-- A network that is run by the lines of a script.

abbrev pub network_end : Option WorldRefusal → Status
network_end None = status.Done
network_end (Some refusal) = status.Input refusal.place (of_world refusal.kind)

-- the lines of a script are run, all of them or up to the first that the world refuses; or the first that the grammar
-- refuses is named
abbrev pub replay_end : Result (List Line) LineRefusal → Status
replay_end (Ok lines) = network_end (refusal_of_lines lines)
replay_end (Err refusal) = status.Input refusal.place (of_line refusal.kind)

abbrev pub replay_report : Result (List Line) LineRefusal → List ℕ
replay_report (Ok lines) = report_of_lines lines
replay_report (Err refusal) = []

-- A seed's script: its text, and the sums of what all gateways and nodes count after it.

abbrev pub seeded_lines : Seeded → List Line
seeded_lines of = sample_of of.seed (extent_of of)

abbrev pub sample_report : Seeded → List ℕ
sample_report of = printed kind.Replay (seeded_lines of)

abbrev pub drill_report : Seeded → List ℕ
drill_report of = summary_text (summary_of (replayed (seeded_lines of)))

-- What is handed back.

-- what the lines print ends with the report of what they make: all sealed files, and all counts
abbrev pub EndsByReport : List Line → Type 0
EndsByReport lines = (front : List ℕ) × (report_of_lines lines ≡ front ++ report_of (replayed lines))

-- The areas, shelves and nodes are those of the world that the lines make (`at_rest`; the rest speaks of that world alone).
-- Each gateway runs, its whole history is firm, and its area stands for it. The sealed files of its shelf are those that
-- the history closes, which have all its records, and no file is unsealed. What the lines print, which isn't what `drill`
-- prints, ends with the report, and this has all files that the histories close.
-- In the files of all its gateways each record of each packet that was ever resolved stands at exactly one place of its
-- own, and each record of any other packet at one at most; no copy that is held or was cancelled puts one there, and the
-- files have no other record. The places are those of these files, and in those that are handed out a reader of CDR
-- files finds each record at its place.
pub record RanNetwork (lines : List Line) (played : Played) : Type 0 where
  pub at_rest : HasPlayedOut (replayed lines) played
  pub told : EndsByReport lines
  pub written : AreWritten (replayed lines)
  pub places : StandsOnce (files_in (setup_of lines)) (replayed lines).world
  pub there : StandInFiles (files_in (setup_of lines)) (replayed lines).world
  pub read : AreRead (files_in (setup_of lines)) (replayed lines).world played.shelves.items

-- for `job` alone: the lines of the network that a command runs
abbrev pub lines_ok : Result (List Line) LineRefusal → Option (List Line)
lines_ok (Ok lines) = Some lines
lines_ok (Err refusal) = None

abbrev pub network_lines : Command → List ℕ → Option (List Line)
network_lines Feed text = None
network_lines Show text = None
network_lines Replay text = lines_ok (script_in kind.Replay text)
network_lines (Sample of) text = None
network_lines (Drill of) text = Some (seeded_lines of)

-- what a job that ends so ran to its end, by what it read
abbrev pub lines_run : Status → Command → List ℕ → Option (List Line)
lines_run status.Done command text = network_lines command text
lines_run status.Words command text = None
lines_run (status.Input place kind) command text = None
lines_run status.Read command text = None
lines_run status.Write command text = None
lines_run status.Memory command text = None
lines_run (status.Store why) command text = None
lines_run status.Link command text = None
lines_run (status.Audit packet places wanted) command text = None
lines_run (status.Unfinished turns packet count) command text = None

-- the network that ran is handed back, and nothing else is
abbrev pub HandsBack : Option (List Line) → Option Played → Type 0
HandsBack None played = played ≡ None
HandsBack (Some lines) played = IsSomeAnd played (RanNetwork lines)

-- What a job that is done hands back of a network, by its words, and by what its source had, where it tells that: a replay
-- the network that its script is, and a drill that of its seed.
pub record HandsNetwork (words : List (List ℕ)) (left : Option (List ℕ)) (ended : Status) (played : Option Played)
    : Type 0 where
  pub of_script : (text : List ℕ) (lines : List Line) → command_of words ≡ Some Replay → left ≡ Some text →
      script_in kind.Replay text ≡ Ok lines → ended ≡ status.Done → IsSomeAnd played (RanNetwork lines)
  pub of_seed : (of : Seeded) → command_of words ≡ Some (Drill of) → ended ≡ status.Done →
      IsSomeAnd played (RanNetwork (seeded_lines of))
