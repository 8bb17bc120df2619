use Rattle.std.proofs.Common.{◌≡◌, ◌-◌, true}
use Rattle.node_run.specs.Packets.{filled}
use Rattle.node_run.proofs.hearing.fill.Given as goal

-- what is left to take makes of the node what all makes of it
abbrev pub invariant-loop-next : goal.invariant-loop-next
invariant-loop-next l = record {
  runs : l.node.is_running ≡ true;
  next : l.next ≡ l.node.submissions;
  same : filled l.packets l.node ≡ filled l.packets l.initial.node;
}

abbrev pub decreases-loop-next : goal.decreases-loop-next
decreases-loop-next l = l.packets - l.next
