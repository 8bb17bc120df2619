use Rattle.std.proofs.Common.{◌≡◌, drop, slice_get}
use Rattle.gateway_index.proofs.Names.{filter_map, path_in, paths_in, side_of}
use Rattle.gateway_index.proofs.index.Index.path.Given as goal

-- the path that is asked for is so far among those of the nodes that are left
abbrev pub invariant-loop-place : goal.invariant-loop-place
invariant-loop-place l =
    slice_get (filter_map (path_in (side_of l.firm l.self)) (drop l.place (side_of l.firm l.self).nodes.known)) l.left ≡ slice_get (paths_in (side_of l.firm l.self)) l.fn.k
