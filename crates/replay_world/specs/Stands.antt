-- When a replay in memory stands for a value.
use Rattle.std.specs.Prelude.{◌≡◌, ℕ, zero, suc, ◌≤◌, Bool, false, List, [], ◌∷◌, All, length, slice_get, vec_capacity, Option, None}
use Rattle.node_core.specs.Log.{LogEntry, counter_of}
use Rattle.node_core.specs.Value.{NodeValue}
use Rattle.once_core.specs.Beginning.{IsReached}
use Rattle.once_core.specs.Expired.{starts_in}
use Rattle.once_core.specs.Gateway.{Gateway}
use Rattle.once_core.specs.World.{node_value}
use Rattle.replay_gateway.specs.Machine.{Machine}
use Rattle.replay_gateway.specs.Setup.{Setup}
use Rattle.replay_gateway.specs.Standing.{MachineStands}
use Rattle.replay_world.specs.Value.{ReplayValue}
use Rattle.replay_gateway.specs.declared.machine.Machine as real
use Rattle.replay_world.specs.declared.replay.Replay.{Replay}

-- Nodes.

-- the nodes from a place on, by their logs, where there are so many gateways
abbrev pub nodes_from : ℕ → ℕ → List (List LogEntry) → List NodeValue
nodes_from gateways place [] = []
nodes_from gateways place (log ∷ logs) = node_value gateways place log ∷ nodes_from gateways (suc place) logs

-- what stands in a list under a number from 1
abbrev pub numbered : {A : Type 0} → List A → ℕ → Option A
numbered xs zero = None
numbered xs (suc k) = slice_get xs k

-- a node's restart counter is the number of its starts, which one octet holds
pub record CountsStarts (log : List LogEntry) : Type 0 where
  pub some : 1 ≤ starts_in log
  pub most : starts_in log ≤ 255
  pub counter : counter_of 1 log ≡ starts_in log

-- Gateways.

-- There is room for the areas and the shelves of all gateways.
pub record HasRoom (replay : Replay) : Type 0 where
  pub no_areas : replay.areas.items ≡ []
  pub no_shelves : replay.shelves.items ≡ []
  pub areas : length replay.gateways.items ≤ vec_capacity replay.areas
  pub shelves : length replay.gateways.items ≤ vec_capacity replay.shelves

-- each gateway from a place on stands for its value
abbrev pub EachStands : Setup → ℕ → List Gateway → List Machine → List real.Machine → Type 0
EachStands setup place [] [] [] = Unit {0}
EachStands setup place (g ∷ gs) (m ∷ ms) (r ∷ rs) =
    MachineStands setup place g m r × EachStands setup (suc place) gs ms rs
EachStands setup place _ _ _ = ⊥

-- there was no memory for something that it was to do
abbrev pub has_failed : Replay → Bool
has_failed replay = replay.has_failed

-- All gateways, nodes and messages stand for those of the value, whose world is reached, and nothing lacked memory. A
-- message that waits was sent.
pub record Stands (v : ReplayValue) (replay : Replay) : Type 0 where
  pub reached : IsReached v.world
  pub gateways : EachStands v.setup 0 v.world.gateways v.machines replay.gateways.items
  pub few_gateways : length v.world.gateways ≤ 255
  pub few_nodes : length v.world.nodes ≤ 255
  pub nodes : replay.nodes.items ≡ nodes_from (length v.world.gateways) 0 v.world.nodes
  pub starts : All CountsStarts v.world.nodes
  pub now : replay.moment ≡ v.world.now
  pub messages : replay.messages.items ≡ v.world.messages
  pub waits : replay.waiting.keys ≡ v.waiting
  pub sent : All (λ number. number ≤ length v.world.messages) v.waiting
  pub from_one : All (λ number. 1 ≤ number) v.waiting
  pub room : HasRoom replay
  pub whole : has_failed replay ≡ false
