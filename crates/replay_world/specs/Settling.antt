-- Gateways that settle, for whose areas and shelves nothing is armed.
use Rattle.std.specs.Prelude.{◌≡◌, ℕ, ◌-◌, true, if◌then◌else◌, All, List, [], ◌∷◌, length, None, slice_get}
use Rattle.area_disk.specs.Armed.Armed.{Nothing}
use Rattle.once_core.specs.Turn.{is_down_in, no_running_gateway}
use Rattle.once_core.specs.declared.event.Event.TheVariants as event
use Rattle.replay_world.specs.Does.{DoesAll}
use Rattle.replay_world.specs.Lines.{after_steps}
use Rattle.replay_world.specs.Steps.{Step, Plays}
use Rattle.replay_gateway.specs.Machine.{Machine}
use Rattle.replay_world.specs.Value.{ReplayValue}
use Rattle.replay_world.specs.declared.replay.Replay.{Replay}

abbrev pub IsIdle : Machine → Type 0
IsIdle m = (m.armed ≡ Nothing) × (m.filing.armed ≡ Nothing)

abbrev pub AreUnarmed : ReplayValue → Type 0
AreUnarmed v = All IsIdle v.machines

-- a gateway is opened where it is stopped
abbrev pub opening_steps : ReplayValue → ℕ → List Step
opening_steps v gateway = if is_down_in v.world gateway then Plays (event.Open gateway) ∷ [] else []

-- Nothing is armed still, and all gateways but the one in this place are as they were.
pub record Stays (v u : ReplayValue) (place : ℕ) : Type 0 where
  pub unarmed : AreUnarmed u
  pub count : length u.world.gateways ≡ length v.world.gateways
  pub others : (k : ℕ) → (k ≡ place → ⊥) → slice_get u.world.gateways k ≡ slice_get v.world.gateways k

-- Steps at the gateway with this number were made, which runs then, and the line goes on.
pub record Settles (v : ReplayValue) (steps : List Step) (number : ℕ) (before after : List ℕ) (replay : Replay)
    : Type 0 where
  pub does : DoesAll v steps before after replay true
  pub stays : Stays v (after_steps v steps) (number - 1)
  pub runs : no_running_gateway (after_steps v steps).world number ≡ None
