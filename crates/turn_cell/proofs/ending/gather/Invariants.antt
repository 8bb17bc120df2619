use Rattle.std.proofs.Common.{◌≡◌, List, ◌++◌}
use Rattle.turn_cell.proofs.Names.{AreResting, known_by, Pass}
use Rattle.turn_cell.proofs.ending.gather.Given as goal

abbrev pub invariant-loop-pass : goal.invariant-loop-pass
invariant-loop-pass g l =
    (l.place.table_id ≡ l.initial.place.table_id)
    × ((behind : List Pass) × (l.initial.passes.items ≡ l.passes.items ++ behind)
    × AreResting l.place (known_by behind ++ l.initial.place.me.0.passes))

abbrev pub decreases-loop-pass : goal.decreases-loop-pass
decreases-loop-pass g l = goal.left-loop-pass g l
