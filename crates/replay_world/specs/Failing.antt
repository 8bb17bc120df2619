-- A replay that lacked memory.
use Rattle.std.specs.Prelude.{◌≡◌, ℕ, Bool, true, false, List}
use Rattle.replay_world.specs.Stands.{has_failed}
use Rattle.replay_world.specs.declared.lines.LineEnd.{LineEnd}
use Rattle.replay_world.specs.declared.lines.LineEnd.TheVariants as end
use Rattle.replay_world.specs.declared.replay.Replay.{Replay}

abbrev pub lacks_memory : LineEnd → Bool
lacks_memory end.Ran = false
lacks_memory (end.Refused kind) = false
lacks_memory end.NoMemory = true

-- What lacks memory makes a replay fail. One that has failed lacks it each time, and is left as it was, with nothing
-- printed.
pub record Fails (lacks : Bool) (old : Replay) (before : List ℕ) (new : Replay) (after : List ℕ) : Type 0 where
  pub fails : lacks ≡ true → has_failed new ≡ true
  pub stays : has_failed old ≡ true → (lacks ≡ true) × (new ≡ old) × (after ≡ before)
