use Rattle.std.proofs.Common.{◌≡◌, [], ◌∷◌}
use Rattle.once_core.proofs.Names.{Began, nodes_kept, times_of}
use Rattle.once_core.proofs.world.first_nodes.Given as goal

-- the nodes so far
abbrev pub invariant-loop-place : goal.invariant-loop-place
invariant-loop-place l = l.all.items ≡ nodes_kept l.gateways 0 (times_of l.place (Began ∷ []))
