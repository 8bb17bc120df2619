use Rattle.std.proofs.Common.{◌≡◌, ℕ, [], ◌∷◌}
use Rattle.replay_world.proofs.Names.{addresses_from, Began, nodes_from, times_of}
use Rattle.replay_world.proofs.replay.nodes_of.Given as goal

-- the nodes so far run
abbrev pub invariant-loop-place : goal.invariant-loop-place
invariant-loop-place l = (gateways : ℕ) → l.addresses ≡ addresses_from 0 gateways →
    l.nodes.items ≡ nodes_from gateways 0 (times_of l.place (Began ∷ []))
