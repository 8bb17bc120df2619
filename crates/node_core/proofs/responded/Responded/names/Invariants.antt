use Rattle.std.proofs.Common.{◌≡◌, Some, map, drop}
use Rattle.node_core.proofs.Names.{names, nearest}
use Rattle.node_core.proofs.responded.Responded.names.Given as goal

abbrev pub invariant-loop-k : goal.invariant-loop-k
invariant-loop-k l =
    names (map (nearest (Some l.self-inside.last)) (drop l.k l.self-inside.numbers)) l.number
    ≡ names (map (nearest (Some l.self-inside.last)) l.self-inside.numbers) l.number
