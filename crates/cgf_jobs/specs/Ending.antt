-- What decides how the job ends: its words, its input, and the faults of its source and its sink.
use Rattle.std.specs.Prelude.{ℕ, ◌≡◌, ◌≢◌, ◌<◌, ◌⊎◌, true, false, List, length, Option, Some, None}
use Rattle.gw_base.specs.Faults.{Rose}
use Rattle.cgf_jobs.specs.Command.{command_of, has_input, most_read}
use Rattle.replay_world.specs.declared.replay.Played.{Played}
use Rattle.cgf_jobs.specs.Job.{Job}
use Rattle.cgf_jobs.specs.Run.{HasReported, IsRead, TakesUpTo, WritesFront, end_of, is_reported}
use Rattle.cgf_jobs.specs.declared.command.Command.{Command}
use Rattle.cgf_jobs.specs.declared.status.Status.{Status}
use Rattle.cgf_jobs.specs.declared.status.Status.TheVariants as status

-- `Words` is told of words that are none of the forms alone, and of each of them, unless there was no memory to parse
-- them. Then the source stays as it was, and so it does where the command has no input.
pub record WordsDecide {S : Type 0} (asked : Option Command) (ended : Status) (before after : S) : Type 0 where
  pub refused : ended ≡ status.Words → asked ≡ None
  pub told : asked ≡ None → (ended ≡ status.Words) ⊎ (ended ≡ status.Memory)
  pub unread : asked ≡ None → after ≡ before
  pub unasked : (command : Command) → asked ≡ Some command → has_input command ≡ false → after ≡ before

-- no octet past the most that the command of these words reads is taken
abbrev pub IsBounded : List (List ℕ) → Option (List ℕ) → Option (List ℕ) → Type 0
IsBounded words left rest = (command : Command) → command_of words ≡ Some command → TakesUpTo (most_read command) left rest

-- The job's way to end has its cause in the counts of faults of its source and of its sink, before it and after it: at
-- Read the source failed, at Write the sink did, and at any other end neither.
abbrev pub HasCause : Status → ℕ → ℕ → ℕ → ℕ → Type 0
HasCause status.Read source source' sink sink' = Rose source source' × (sink' ≡ sink)
HasCause status.Write source source' sink sink' = (source' ≡ source) × Rose sink sink'
HasCause status.Done source source' sink sink' = (source' ≡ source) × (sink' ≡ sink)
HasCause status.Words source source' sink sink' = (source' ≡ source) × (sink' ≡ sink)
HasCause (status.Input place kind) source source' sink sink' = (source' ≡ source) × (sink' ≡ sink)
HasCause status.Memory source source' sink sink' = (source' ≡ source) × (sink' ≡ sink)
HasCause (status.Store why) source source' sink sink' = (source' ≡ source) × (sink' ≡ sink)
HasCause status.Link source source' sink sink' = (source' ≡ source) × (sink' ≡ sink)
HasCause (status.Audit packet places wanted) source source' sink sink' = (source' ≡ source) × (sink' ≡ sink)
HasCause (status.Unfinished turns packet count) source source' sink sink' = (source' ≡ source) × (sink' ≡ sink)

-- by these words the input was read as far as their command reads it, and what was read decides that the job ends so
pub record EndsByInput (words : List (List ℕ)) (left rest : Option (List ℕ)) (ended : Status) : Type 0 where
  pub command : Command
  pub asked : command_of words ≡ Some command
  pub octets : List ℕ
  pub read : IsRead (most_read command) left rest octets
  pub decided : ended ≡ end_of command octets

-- what is left decides how the job ends, unless memory runs out
abbrev pub EndsByWhole : List (List ℕ) → Option (List ℕ) → Status → Type 0
EndsByWhole words left ended = (command : Command) (octets : List ℕ) → command_of words ≡ Some command → left ≡ Some octets →
    length octets < most_read command → (ended ≡ status.Memory) ⊎ (ended ≡ end_of command octets)

-- Where nothing failed, what was read decides how the job ends, unless memory runs out; and where the source tells what it
-- had, and that is fewer octets than the command reads at most, that is what was read.
pub record IsComplete (words : List (List ℕ)) (left rest : Option (List ℕ)) (ended : Status) : Type 0 where
  pub read : (ended ≡ status.Memory) ⊎ EndsByInput words left rest ended
  pub whole : EndsByWhole words left ended

-- What a job does, as a whole.
pub record DoesJob (job : Job) (ended : Status) (played : Option Played) : Type 0 where
  -- At `Done` the input was read to its end, and all of the report on it and nothing else was written; of `replay` and
  -- `drill` the network that it is the report of is handed back. At `Input` the place is the first that is refused of the
  -- input that was read: by the grammar, and then nothing is written; or as a line that can't be run, and then the input
  -- was read to its end, and the report of the lines before is written.
  pub report : is_reported ended ≡ true → HasReported job ended played
  -- A front of what is to be written was.
  pub front : ended ≡ status.Write → WritesFront job
  -- Nothing is handed back but at `Done`.
  pub none : ended ≢ status.Done → played ≡ None
  -- Each fault was the source's or the sink's own, and where another end is told there was none.
  pub cause : HasCause ended job.read_before job.read_after job.written_before job.written_after
  -- Of a script no octet past the first 16,777,217 is taken, of a file none past the first 4,294,967,296.
  pub bound : IsBounded job.words job.left job.rest
  -- With no fault, what was read decides, unless memory runs out.
  pub complete : command_of job.words ≢ None → ¬ (Rose job.read_before job.read_after) →
      ¬ (Rose job.written_before job.written_after) → IsComplete job.words job.left job.rest ended
