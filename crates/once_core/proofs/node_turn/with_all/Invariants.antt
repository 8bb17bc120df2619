use Rattle.std.proofs.Common.{◌≡◌, length}
use Rattle.once_core.specs.NodeMoves.{with_all}
use Rattle.once_core.proofs.node_turn.with_all.Given as goal

-- the draft so far with the records that are left is the first draft with all
abbrev pub invariant-loop-record : goal.invariant-loop-record
invariant-loop-record l = with_all l.draft l.records ≡ with_all l.initial.draft l.initial.records

abbrev pub decreases-loop-record : goal.decreases-loop-record
decreases-loop-record l = length l.records
