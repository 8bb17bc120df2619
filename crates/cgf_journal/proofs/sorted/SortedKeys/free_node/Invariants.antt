use Rattle.std.proofs.Common.{◌-◌}
use Rattle.cgf_journal.proofs.Changes.{IsLettingGo}
use Rattle.cgf_journal.proofs.sorted.SortedKeys.free_node.Given as goal

-- the numbers of the node up to here are let go
abbrev pub invariant-loop-at : goal.invariant-loop-at
invariant-loop-at l = IsLettingGo l.fn.node l.fn.self l.self l.at l.end

abbrev pub decreases-loop-at : goal.decreases-loop-at
decreases-loop-at l = l.end - l.at
