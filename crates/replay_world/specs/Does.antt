-- What a call of a replay does: steps, each of which changes what it stands for and is told.
use Rattle.std.specs.Prelude.{◌≡◌, not, Bool, true, false, if◌then◌else◌, ℕ, List, [], ◌∷◌, ◌++◌, None, Result, Ok, Err}
use Rattle.replay_world.specs.Lines.{after_steps, line_after, notices_of, refusal_of_line}
use Rattle.replay_world.specs.Notices.{notice_lines}
use Rattle.replay_world.specs.Report.{line_text}
use Rattle.replay_world.specs.Stands.{Stands}
use Rattle.replay_world.specs.Steps.{Step, after_step, ends_line}
use Rattle.replay_world.specs.Telling.{step_notices}
use Rattle.replay_world.specs.Value.{ReplayValue}
use Rattle.replay_world.specs.declared.lines.LineEnd.{LineEnd}
use Rattle.replay_world.specs.declared.lines.LineEnd.TheVariants as end
use Rattle.replay_world.specs.declared.replay.Replay.{Replay}
use Rattle.world_script.specs.declared.line.Line.{Line}
use Rattle.world_script.specs.declared.line.Line.TheVariants as line

-- the line goes on after all of these steps
abbrev pub goes_on : ReplayValue → List Step → Bool
goes_on v [] = true
goes_on v (step ∷ later) = if ends_line v step then false else goes_on (after_step v step) later

-- What a line is at: a node, or a message; a gateway; or a gateway's device.

abbrev pub is_at_node : Line → Bool
is_at_node (line.Submit node format version records) = true
is_at_node (line.Tick node) = true
is_at_node (line.Halt node) = true
is_at_node (line.Start node) = true
is_at_node (line.Deliver message) = true
is_at_node _ = false

abbrev pub is_at_gateway : Line → Bool
is_at_gateway (line.Mark gateway) = true
is_at_gateway (line.Close gateway) = true
is_at_gateway (line.Commit gateway) = true
is_at_gateway (line.Write gateway) = true
is_at_gateway (line.Redirect gateway cause to) = true
is_at_gateway _ = false

abbrev pub is_on_device : Line → Bool
is_on_device (line.Stop gateway) = true
is_on_device (line.Open gateway) = true
is_on_device (line.Arm gateway call mode) = true
is_on_device (line.Fail gateway call) = true
is_on_device (line.ArmShelf gateway call mode) = true
is_on_device (line.FailShelf gateway call) = true
is_on_device _ = false

-- the end of a line that ran, or for which there was no memory
abbrev pub end_of : {A E : Type 0} → Result A E → LineEnd
end_of (Ok done) = end.Ran
end_of (Err fault) = end.NoMemory

module _ (v : ReplayValue) where
  -- A step was made, and this was printed before and after it.
  pub record Does (step : Step) (before after : List ℕ) (replay : Replay) : Type 0 where
    pub stands : Stands (after_step v step) replay
    pub prints : after ≡ before ++ notice_lines (step_notices v step)

  -- the same of a step that may end the line
  pub record DoesOrEnds (step : Step) (before after : List ℕ) (replay : Replay) (on : Bool) : Type 0 where
    pub does : Does step before after replay
    pub goes : on ≡ not (ends_line v step)

  -- Steps were made, up to one that ended the line.
  pub record Makes (steps : List Step) (before after : List ℕ) (replay : Replay) : Type 0 where
    pub stands : Stands (after_steps v steps) replay
    pub prints : after ≡ before ++ notice_lines (notices_of v steps)

  -- the same, and whether the line goes on
  pub record DoesAll (steps : List Step) (before after : List ℕ) (replay : Replay) (on : Bool) : Type 0 where
    pub makes : Makes steps before after replay
    pub goes : on ≡ goes_on v steps

  -- A line was run.
  pub record LineRan (said : Line) (before after : List ℕ) (replay : Replay) : Type 0 where
    pub allowed : refusal_of_line v said ≡ None
    pub stands : Stands (line_after v said) replay
    pub prints : after ≡ before ++ line_text v said

  -- A line was run where it is of this kind, and else nothing was done.
  pub record RunsIf (is_such : Bool) (said : Line) (before after : List ℕ) (old new : Replay) (ran : Bool)
      : Type 0 where
    pub kind : ran ≡ is_such
    pub runs : ran ≡ true → LineRan said before after new
    pub kept : ran ≡ false → (new ≡ old) × (after ≡ before)
