-- When a replay is as the lines of its script say, and which turns its world allows.
use Rattle.std.specs.Prelude.{◌≡◌, ℕ, Bool, true, false, List, [], ◌∷◌, length, None}
use Rattle.std.specs.List.{AllByRecursion}
use Rattle.area_disk.specs.Armed.{Armed}
use Rattle.area_disk.specs.Armed.Armed.{Nothing, Fail, Stop}
use Rattle.node_core.specs.Log.{runs}
use Rattle.once_core.specs.Gateway.{Rules}
use Rattle.once_core.specs.Turn.{Turn, is_down_in, is_none_of, log_in, refusal_of, turn}
use Rattle.once_core.specs.World.{World}
use Rattle.replay_gateway.specs.Machine.{Machine}
use Rattle.replay_world.specs.Value.{ReplayValue}
use Rattle.world_script.specs.World.{Scene, has_gateway, has_node, is_stopped}

abbrev pub arms_stop : Armed → Bool
arms_stop Nothing = false
arms_stop (Fail call) = false
arms_stop (Stop call outcome) = true

-- The world has so many gateways and nodes, and it is this moment; just these gateways are stopped, and all nodes run;
-- each waiting message was sent; and no stop is armed, for no area and for no shelf, but failures may be.
pub record IsAsSaid (s : Scene) (v : ReplayValue) : Type 0 where
  pub gateways : length v.world.gateways ≡ s.gateways
  pub nodes : length v.world.nodes ≡ s.nodes
  pub moment : v.world.now ≡ s.moment
  pub stopped : (gateway : ℕ) → has_gateway s gateway ≡ true → is_down_in v.world gateway ≡ is_stopped s gateway
  pub running : (node : ℕ) → has_node s node ≡ true → runs (log_in v.world node) ≡ true
  pub sent : AllByRecursion (λ message. is_none_of (length v.world.messages) message ≡ false) v.waiting
  pub unarmed : AllByRecursion (λ (m : Machine). (arms_stop m.armed ≡ false) × (arms_stop m.filing.armed ≡ false))
      v.machines

-- the world allows each of these turns, one after the other
abbrev pub Allows : Rules → World → List Turn → Type 0
Allows rules w [] = Unit {0}
Allows rules w (t ∷ later) = (refusal_of w t.event ≡ None) × Allows rules (turn rules w t) later
