-- Words for the code that runs a network. No contract of a public call cites them.
use Rattle.std.specs.Prelude.{ℕ, suc, ◌≡◌, ◌≤◌, ◌++◌, List, drop, Option, Some, None}
use Rattle.replay_world.specs.Report.{Refusal as WorldRefusal, replayed}
use Rattle.replay_world.specs.Report.{lines_after, printed_by, refusal_of_lines, refused_from, report_of_lines}
use Rattle.replay_world.specs.Settled.{AreWritten, HasPlayedOut}
use Rattle.replay_gateway.specs.Setup.{setup_of}
use Rattle.replay_world.specs.Stands.{Stands}
use Rattle.replay_world.specs.Summary.{summary_of, summary_text}
use Rattle.replay_world.specs.Value.{ReplayValue}
use Rattle.replay_world.specs.declared.replay.Played.{Played}
use Rattle.replay_world.specs.declared.replay.Replay.{Replay}
use Rattle.world_script.specs.declared.line.Line.{Line}
use Rattle.cgf_jobs.specs.NetworkReport.{HandsBack}
use Rattle.cgf_jobs.specs.Kinds.{of_world}
use Rattle.cgf_jobs.specs.declared.report.Refusal.{Refusal}
use Rattle.cgf_jobs.specs.declared.report.Report.{Report}

-- So many lines of a script were run, of which the world refused none. What the others come to is what all come to.
pub record IsAt (lines : List Line) (at : ℕ) (replay : Replay) : Type 0 where
  pub v : ReplayValue
  pub stands : Stands v replay
  pub gateways : 1 ≤ (setup_of lines).gateways
  pub after : lines_after v (drop at lines) ≡ replayed lines
  pub refused : refused_from (suc at) v (drop at lines) ≡ refusal_of_lines lines

-- The same, and what they print was printed.
pub record HasRun (lines : List Line) (at : ℕ) (replay : Replay) (printed : List ℕ) : Type 0 where
  pub here : IsAt lines at replay
  pub prints : printed ++ printed_by here.v (drop at lines) ≡ report_of_lines lines

-- the line that the world refuses, as it is said of an input
abbrev pub refusal_at_line : Option WorldRefusal → Option Refusal
refusal_at_line None = None
refusal_at_line (Some refusal) = Some (record { place = refusal.place; kind = of_world refusal.kind })

-- what is handed back stands for this, where all its files are written
abbrev pub PlayedOf : ReplayValue → Option Played → Type 0
PlayedOf v None = ⊥
PlayedOf v (Some played) = AreWritten v → HasPlayedOut v played

-- the lines ran to their end, unless one was refused
abbrev pub lines_unless : Option WorldRefusal → List Line → Option (List Line)
lines_unless None lines = Some lines
lines_unless (Some refusal) lines = None

-- a report is what is printed for the lines of a network
pub record IsReplayed (lines : List Line) (report : Report) : Type 0 where
  pub printed : report.printed.items ≡ report_of_lines lines
  pub refused : report.refused ≡ refusal_at_line (refusal_of_lines lines)
  pub played : HandsBack (lines_unless (refusal_of_lines lines) lines) report.played

-- or the sums of it
pub record HasDrilled (lines : List Line) (report : Report) : Type 0 where
  pub printed : report.printed.items ≡ summary_text (summary_of (replayed lines))
  pub refused : report.refused ≡ None
  pub played : HandsBack (Some lines) report.played
