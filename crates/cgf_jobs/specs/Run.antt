-- The job as a whole: what it reads of its input and writes, and how it ends.
use Rattle.std.specs.Prelude.{ℕ, ◌≡◌, ◌≤◌, ◌⊎◌, Bool, true, false, List, [], length, Option, Some, None, Result, Ok, Err}
use Rattle.std.specs.Io.KnownBytes.{Appends, Consumes, IsAtEnd}
use Rattle.cdr_file.specs.Reading.{file_in}
use Rattle.cdr_file.specs.declared.fault.FileFault.{FileFault}
use Rattle.cdr_file.specs.declared.fault.FileFault.TheVariants as fault
use Rattle.cdr_file.specs.declared.file.CdrFile.{CdrFile}
use Rattle.gw_base.specs.Written.{AppendsFront}
use Rattle.cgf_jobs.specs.Command.{command_of, has_input, most_read}
use Rattle.world_script.specs.Script.{Refusal, script_in, script_of}
use Rattle.world_script.specs.declared.kind.ScriptKind.TheVariants as kind
use Rattle.world_script.specs.declared.line.Line.{Line}
use Rattle.cgf_jobs.specs.FeedReport.{fed_of}
use Rattle.cgf_jobs.specs.Job.{Job}
use Rattle.cgf_jobs.specs.Kinds.{is_of_run, of_file, of_line, of_world}
use Rattle.cgf_jobs.specs.NetworkReport.{HandsBack, drill_report, lines_run, replay_end, replay_report, sample_report}
use Rattle.cgf_jobs.specs.ShowReport.{show_report}
use Rattle.once_core.specs.declared.event.WorldKind.TheVariants.{Earlier}
use Rattle.replay_world.specs.declared.replay.Played.{Played}
use Rattle.cgf_jobs.specs.declared.command.Command.{Command}
use Rattle.cgf_jobs.specs.declared.command.Command.TheVariants.{Feed, Show, Replay, Sample, Drill}
use Rattle.cgf_jobs.specs.declared.status.Status.{Status}
use Rattle.cgf_jobs.specs.declared.status.Status.TheVariants as status

-- How a job ends by what was read, where nothing fails, and what it prints.

-- the lines of a script are run, all of them or up to the first that goes back in time
abbrev pub run_end : Option ℕ → Status
run_end None = status.Done
run_end (Some place) = status.Input place (of_world Earlier)

-- a script is fed, or its first faulty line is named
abbrev pub script_end : Result (List Line) Refusal → Status
script_end (Ok lines) = run_end (fed_of lines).refused
script_end (Err refusal) = status.Input refusal.place (of_line refusal.kind)

abbrev pub script_report : Result (List Line) Refusal → List ℕ
script_report (Ok lines) = (fed_of lines).printed
script_report (Err refusal) = []

-- a file is listed, or its first fault is named, with its octet; the reading of octets itself never lacks memory
abbrev pub shown_end : Result CdrFile FileFault → Status
shown_end (Ok file) = status.Done
shown_end (Err (fault.Bad place kind)) = status.Input place (of_file kind)
shown_end (Err fault.NoMemory) = status.Memory

abbrev pub end_of : Command → List ℕ → Status
end_of Feed text = script_end (script_of text)
end_of Show octets = shown_end (file_in octets)
end_of Replay text = replay_end (script_in kind.Replay text)
end_of (Sample of) octets = status.Done
end_of (Drill of) octets = status.Done

-- What a script prints is nothing where the grammar refuses it, and what its lines print up to the first that can't be
-- run.
abbrev pub report_of : Command → List ℕ → List ℕ
report_of Feed text = script_report (script_of text)
report_of Show octets = show_report octets
report_of Replay text = replay_report (script_in kind.Replay text)
report_of (Sample of) octets = sample_report of
report_of (Drill of) octets = drill_report of

-- whether the job may have written something when it ends in this way
abbrev pub may_have_written : Status → Bool
may_have_written status.Done = true
may_have_written status.Words = false
may_have_written (status.Input place kind) = is_of_run kind
may_have_written status.Read = false
may_have_written status.Write = true
may_have_written status.Memory = false
may_have_written (status.Store why) = false
may_have_written status.Link = false
may_have_written (status.Audit packet places wanted) = false
may_have_written (status.Unfinished turns packet count) = false

-- What is read.

-- these octets were read of an input that had `left` and has `rest` left: all of it, or as many as a command reads at most
pub record IsRead (most : ℕ) (left rest : Option (List ℕ)) (octets : List ℕ) : Type 0 where
  pub consumed : Consumes left rest octets
  pub bounded : length octets ≤ most
  pub whole : (length octets ≡ most) ⊎ IsAtEnd rest

-- no more octets than that were taken of an input
abbrev pub TakesUpTo : ℕ → Option (List ℕ) → Option (List ℕ) → Type 0
TakesUpTo most left rest = (taken : List ℕ) × (length taken ≤ most) × Consumes left rest taken

-- By the words of a job its input was read as far as their command reads it, and what was read decides that it ends so;
-- where the grammar takes the input it was read to its end.
pub record HasRead (job : Job) (ended : Status) : Type 0 where
  pub command : Command
  pub asked : command_of job.words ≡ Some command
  pub octets : List ℕ
  pub read : IsRead (most_read command) job.left job.rest octets
  pub decided : ended ≡ end_of command octets
  pub whole : may_have_written ended ≡ true → has_input command ≡ true → IsAtEnd job.rest

-- The report on that and nothing else was written; and the network that what was read runs to its end is handed back, and
-- nothing else is.
pub record HasReported (job : Job) (ended : Status) (played : Option Played) : Type 0 where
  pub input : HasRead job ended
  pub written : Appends job.before job.after (report_of input.command input.octets)
  pub hands : HandsBack (lines_run ended input.command input.octets) played

-- a front was written of the report on an input that the grammar takes, however the job was to end
abbrev pub WritesFront : Job → Type 0
WritesFront job = (ended : Status) × (may_have_written ended ≡ true)
    × ((input : HasRead job ended) × AppendsFront job.before job.after (report_of input.command input.octets))

-- how a job ends whose report was written, or was nothing: all of the input was read, or the place that is refused
abbrev pub is_reported : Status → Bool
is_reported status.Done = true
is_reported (status.Input place kind) = true
is_reported status.Words = false
is_reported status.Read = false
is_reported status.Write = false
is_reported status.Memory = false
is_reported (status.Store why) = false
is_reported status.Link = false
is_reported (status.Audit packet places wanted) = false
is_reported (status.Unfinished turns packet count) = false

-- the number that the program ends with
abbrev pub status_number : Status → ℕ
status_number status.Done = 0
status_number status.Words = 1
status_number (status.Input place kind) = 2
status_number status.Read = 3
status_number status.Write = 4
status_number status.Memory = 5
status_number (status.Store why) = 6
status_number status.Link = 7
status_number (status.Audit packet places wanted) = 8
status_number (status.Unfinished turns packet count) = 9
