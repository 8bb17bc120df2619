-- What `loopback` is asked for: `loopback GATEWAYS NODES PACKETS TURNS`.
use Rattle.std.specs.Prelude.{ℕ, if◌then◌else◌, List, [], ◌∷◌, Option, Some, None, codes}
use Rattle.std.specs.Str.{bytes_eq}
use Rattle.loop_run.specs.declared.setup.LoopSetup.{LoopSetup}
use Rattle.route_filter.specs.Words.{◌>>=◌}
use Rattle.world_script.specs.Values.{number_between}

-- the loop that these numbers say, where each is one in its range
abbrev pub looping_by : List ℕ → List ℕ → List ℕ → List ℕ → Option LoopSetup
looping_by gateways nodes packets turns = do
  g ← number_between 1 4 gateways
  n ← number_between 1 8 nodes
  p ← number_between 1 1000 packets
  t ← number_between 1 10000000 turns
  Some (record { gateways = g; nodes = n; packets = p; turns = t })

-- the loop that the words ask for, where they are those of `loopback`
abbrev pub looping_of : List (List ℕ) → Option LoopSetup
looping_of (name ∷ gateways ∷ nodes ∷ packets ∷ turns ∷ []) =
    if bytes_eq name (codes "loopback") then looping_by gateways nodes packets turns else None
looping_of _ = None
