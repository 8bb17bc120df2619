-- An input that the grammar takes has fewer octets than are read at most, so that it was read to its end.
use Rattle.std.proofs.Common.{◌≡◌, ℕ, ◌<◌, ◌^◌, ◌++◌, inl, inr, true, false, sym, ◌∙◌, List, [], length, Option, Some, None, Result, Ok, Err, refl, ap, subst, arith, append-nil}
use Rattle.std.specs.Prelude.{◌≢◌, IsSomeAnd}
use Rattle.cgf_jobs.proofs.Names.{Appends, AppendsFront, Command, command_of, Consumes, Drill, end_of, ended_by, FileKind, HandsBack, has_input, HasRead, HasReported, is_reported, IsAtEnd, IsRead, IsRefusal, IsReport, Line, LineRefusal, lines_ok, lines_run, may_have_written, most_read, of_file, Played, RanNetwork, Refusal, Report, script_in, Seeded, seeded_lines, Show, shown_end, Status, WritesFront}
use Rattle.cdr_file.specs.Spelling.{Spells}
use Rattle.cdr_file.specs.Reading.{file_in}
use Rattle.cdr_file.specs.declared.fault.FileFault.{FileFault}
use Rattle.cdr_file.specs.declared.fault.FileFault.TheVariants as fault
use Rattle.cdr_file.specs.declared.file.CdrFile.{CdrFile}
use Rattle.world_script.specs.declared.kind.ScriptKind.TheVariants as kind
use Rattle.cgf_jobs.proofs.KindLemmas.{file_not_of_run}
use Rattle.cgf_jobs.specs.Job.{Job}
use Rattle.cgf_jobs.specs.Run.{report_of}
use Rattle.cgf_jobs.specs.ShowReport.{listed}
use Rattle.cgf_jobs.specs.declared.command.Command.TheVariants.{Replay}
use Rattle.cgf_jobs.specs.declared.status.Status.TheVariants as status
use Rattle.cgf_jobs.proofs.Ends.{same_command}
use Rattle.cgf_jobs.proofs.Streams.{appends_none}

-- ---- octets on which a job is done are fewer than the most that are read

pub shown_within : (file : CdrFile) (octets : List ℕ) → Spells file octets → length octets < 2 ^ 32
shown_within file octets spells = omega (arith, ap length spells.spelled, spells.is_file.file_length, spells.is_file.header.file_length)

-- an input was read; one that is shorter than the bound was read to its end
reported : (job : Job) (command : Command) (octets : List ℕ) (ended : Status) → command_of job.words ≡ Some command →
    IsRead (most_read command) job.left job.rest octets →
    (may_have_written ended ≡ true → has_input command ≡ true → length octets < most_read command) →
    ended ≡ end_of command octets → HasRead job ended
reported job command octets ended asked read within decided = record {
  command = command;
  asked = asked;
  octets = octets;
  read = read;
  decided = decided;
  whole = λ taken asks. elim read.whole [
    | inl long ↦ (let no : ⊥ = omega (arith, long, within taken asks) in absurd no)
    | inr end ↦ end
  ];
}

-- a job that was done as its report says
pub writes_done : (job : Job) (command : Command) (octets : List ℕ) (report : Report) →
    command_of job.words ≡ Some command → IsRead (most_read command) job.left job.rest octets →
    (has_input command ≡ true → length octets < most_read command) → IsReport command octets report →
    Appends job.before job.after report.printed.items → HasReported job (ended_by report.refused) report.played
unfolding reported
writes_done job command octets report asked read within is written = record {
  input = reported job command octets (ended_by report.refused) asked read (λ taken. within) is.ended;
  written = subst (λ (text : List ℕ). Appends job.before job.after text) is.printed written;
  hands = subst (λ (s : Status). HandsBack (lines_run s command octets) report.played) (sym is.ended) is.played;
}

pub writes_front : (job : Job) (command : Command) (octets printed : List ℕ) (ended : Status) →
    command_of job.words ≡ Some command → IsRead (most_read command) job.left job.rest octets →
    (has_input command ≡ true → length octets < most_read command) → ended ≡ end_of command octets →
    may_have_written ended ≡ true → printed ≡ report_of command octets → AppendsFront job.before job.after printed →
    WritesFront job
unfolding reported
writes_front job command octets printed ended asked read within decided taken is written = (
  ended,
  taken,
  (
    reported job command octets ended asked read (λ t. within) decided,
    subst (λ (text : List ℕ). AppendsFront job.before job.after text) is written,
  ),
)

-- nothing is written of what the grammar refuses
pub writes_refusal : (job : Job) (command : Command) (octets : List ℕ) (refusal : Refusal) → job.after ≡ job.before →
    command_of job.words ≡ Some command → IsRead (most_read command) job.left job.rest octets →
    IsRefusal command octets refusal → HasReported job (status.Input refusal.place refusal.kind) None
unfolding reported
writes_refusal job command octets refusal same asked read refused = record {
  input = reported job command octets (status.Input refusal.place refusal.kind) asked read (λ taken asks. absurd (never taken))
      refused.ended;
  written = rw (same, refused.none) (appends_none job.before []);
  hands = refl;
}
  where
    never : may_have_written (status.Input refusal.place refusal.kind) ≡ true → ⊥
    never taken =
        let both : true ≡ false = sym taken ∙ ap (λ (s : Status). may_have_written s) refused.ended ∙ refused.untaken in cc

-- What is handed back.

hands_none : (ended : Status) (command : Command) (octets : List ℕ) (played : Option Played) →
    HandsBack (lines_run ended command octets) played → ended ≢ status.Done → played ≡ None
hands_none status.Done command octets played hands other = absurd (other refl)
hands_none _ command octets played hands other = hands

-- a job that isn't done hands nothing back
pub keeps_none : (command : Command) (octets : List ℕ) (report : Report) → IsReport command octets report →
    ended_by report.refused ≢ status.Done → report.played ≡ None
keeps_none command octets report is other =
    hands_none (ended_by report.refused) command octets report.played
    (subst (λ (s : Status). HandsBack (lines_run s command octets) report.played) (sym is.ended) is.played) other

pub reported_done : (ended : Status) → ended ≡ status.Done → is_reported ended ≡ true
reported_done ended done = ap is_reported done

-- all of an input was read
all_read : (text octets : List ℕ) (rest : Option (List ℕ)) → Consumes (Some text) rest octets → IsAtEnd rest →
    octets ≡ text
all_read text octets None consumed end = absurd consumed
all_read text octets (Some rest) consumed end =
    sym (consumed ∙ ap (λ (more : List ℕ). octets ++ more) end ∙ append-nil octets)

-- a replay that is done hands back the network that its script is
pub ran_replay : (job : Job) (ended : Status) (played : Option Played) (text : List ℕ) (lines : List Line) →
    HasReported job ended played → command_of job.words ≡ Some Replay → job.left ≡ Some text →
    script_in kind.Replay text ≡ Ok lines → ended ≡ status.Done → IsSomeAnd played (RanNetwork lines)
ran_replay job ended played text lines has asked left script done =
    let command_is : has.input.command ≡ Replay = same_command job.words has.input.command Replay has.input.asked asked in
    let end : IsAtEnd job.rest = has.input.whole (ap may_have_written done) (ap has_input command_is) in
    let octets_are : has.input.octets ≡ text = all_read text has.input.octets job.rest
    (subst (λ (l : Option (List ℕ)). Consumes l job.rest has.input.octets) left has.input.read.consumed) end in
    subst (λ (r : Result (List Line) LineRefusal). HandsBack (lines_ok r) played) script
    (rw (done, command_is, octets_are) at has.hands)

-- and a drill the network of its seed
pub ran_drill : (job : Job) (ended : Status) (played : Option Played) (of : Seeded) → HasReported job ended played →
    command_of job.words ≡ Some (Drill of) → ended ≡ status.Done → IsSomeAnd played (RanNetwork (seeded_lines of))
ran_drill job ended played of has asked done =
    let command_is : has.input.command ≡ Drill of =
    same_command job.words has.input.command (Drill of) has.input.asked asked in
    rw (done, command_is) at has.hands

-- a listing hands nothing back
pub shown_none : (ended : Status) (octets : List ℕ) → HandsBack (lines_run ended Show octets) None
shown_none status.Done octets = refl
shown_none _ octets = refl

-- the refusal of octets that are no file
pub shown_refusal : (octets : List ℕ) (place : ℕ) (kind : FileKind) → file_in octets ≡ Err (fault.Bad place kind)
    → IsRefusal Show octets (record { place = place; kind = of_file kind })
shown_refusal octets place kind read = record {
  ended = ap (λ (r : Result CdrFile FileFault). shown_end r) (sym read);
  none = ap (λ (r : Result CdrFile FileFault). listed r) read;
  untaken = ap (λ (r : Result CdrFile FileFault). may_have_written (shown_end r)) read ∙ file_not_of_run kind;
}
