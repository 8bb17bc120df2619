-- What a replay hands out: the areas, the shelves and the nodes that it ran.
use Rattle.std.specs.Prelude.{◌≡◌, ℕ, suc, List, [], ◌∷◌, ◌≤◌, length}
use Rattle.area_disk.specs.declared.memory.MemoryArea.{MemoryArea}
use Rattle.cdr_shelf.specs.declared.memory.MemoryShelf.{MemoryShelf}
use Rattle.once_core.specs.Gateway.{Gateway}
use Rattle.replay_gateway.specs.HandedOut.{IsHandedOut}
use Rattle.replay_gateway.specs.Machine.{Machine}
use Rattle.replay_gateway.specs.Setup.{Setup}
use Rattle.replay_world.specs.Stands.{nodes_from}
use Rattle.replay_world.specs.Value.{ReplayValue}
use Rattle.replay_world.specs.declared.replay.Played.{Played}

-- Each gateway from a place on hands out its area and its shelf, in order.
abbrev pub EachHandedOut : Setup → ℕ → List Gateway → List Machine → List MemoryArea → List MemoryShelf → Type 0
EachHandedOut setup place [] [] [] [] = Unit {0}
EachHandedOut setup place (g ∷ gs) (m ∷ ms) (a ∷ later) (s ∷ ss) =
    IsHandedOut setup place g m a s × EachHandedOut setup (suc place) gs ms later ss
EachHandedOut setup place _ _ _ _ = ⊥

-- There is room for so many areas and shelves, and none is there yet.
pub record HaveRoom (count : ℕ) (areas : List MemoryArea) (most_areas : ℕ) (shelves : List MemoryShelf)
    (most_shelves : ℕ) : Type 0 where
  pub no_areas : areas ≡ []
  pub no_shelves : shelves ≡ []
  pub many_areas : count ≤ most_areas
  pub many_shelves : count ≤ most_shelves

-- All gateways' areas and shelves, and all nodes, in order.
pub record HasPlayed (v : ReplayValue) (played : Played) : Type 0 where
  pub gateways : EachHandedOut v.setup 0 v.world.gateways v.machines played.areas.items played.shelves.items
  pub nodes : played.nodes.items ≡ nodes_from (length v.world.gateways) 0 v.world.nodes
