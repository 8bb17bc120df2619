-- What a step of a world that runs gives: the turn of the definition, a refusal exactly where it refuses, or no memory.
use Rattle.std.specs.Prelude.{◌≡◌, ℕ, suc, ◌+◌, ⊤, true, length, Some, None}
use Rattle.file_writer.specs.Streams.{Settings}
use Rattle.once_core.specs.Beginning.{IsReached, default_rules}
use Rattle.once_core.specs.Once.{Once}
use Rattle.once_core.specs.Standing.{Stands, WorldKept}
use Rattle.once_core.specs.StandsOnce.{StandsOnce}
use Rattle.once_core.specs.Turn.{calm, refusal_of, turn}
use Rattle.once_core.specs.World.{World}
use Rattle.once_core.specs.declared.event.Event.{Event}
use Rattle.once_core.specs.declared.event.Stepped.{Stepped}
use Rattle.once_core.specs.declared.event.Stepped.TheVariants.{Done, Refused, NoMemory}
use Rattle.once_core.specs.declared.event.WorldKind.{WorldKind}

-- the world allows the event, and stands for the turn then, with which no device fails; so many messages were sent, of
-- which the first has this number
pub record IsPlayed (w : World) (event : Event) (first count : ℕ) (new : WorldKept) : Type 0 where
  pub allowed : refusal_of w event ≡ None
  pub turned : Stands (turn default_rules w (calm event)) new
  pub first_is : first ≡ suc (length w.messages)
  pub count_is : length (turn default_rules w (calm event)).messages ≡ length w.messages + count

pub record IsRefused (w : World) (event : Event) (kind : WorldKind) (new : WorldKept) : Type 0 where
  pub refused : refusal_of w event ≡ Some kind
  pub same : Stands w new

pub record IsSpent (w : World) (event : Event) (new : WorldKept) : Type 0 where
  pub allowed : refusal_of w event ≡ None
  pub spent : new.is_spent ≡ true

abbrev pub StepGives : World → Event → WorldKept → Stepped → Type 0
StepGives w event new (Done first count) = IsPlayed w event first count new
StepGives w event new (Refused kind) = IsRefused w event kind new
StepGives w event new NoMemory = IsSpent w event new

-- it stands for a world that is reached, in which each record is filed once, and stands at one place of the files of all
-- gateways, whatever the settings of these are
pub record IsMadeOnce (w : World) (new : WorldKept) : Type 0 where
  pub stands : Stands w new
  pub reached : IsReached w
  pub once : Once w
  pub places : (settings : ℕ → Settings) → StandsOnce settings w

-- so it is after an event, where it stood for a world that is reached
abbrev pub FilesOnce : World → Event → WorldKept → Stepped → Type 0
FilesOnce w event new (Done first count) = IsMadeOnce (turn default_rules w (calm event)) new
FilesOnce w event new (Refused kind) = ⊤
FilesOnce w event new NoMemory = ⊤
