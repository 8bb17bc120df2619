use Rattle.std.proofs.Common.{◌≡◌, ℕ, ◌+◌, ◌<◌, ◌^◌, true}
use Rattle.node_core.specs.Value.{NodeValue}
use Rattle.node_run.specs.Outcomes.{StaysAt, turns_of}
use Rattle.node_run.specs.Steps.{RunsOn}
use Rattle.node_run.proofs.running.take_turns.Given as goal

-- whatever runs on where the loop begins does so here
abbrev pub invariant-loop-run : goal.invariant-loop-run
invariant-loop-run g l = record {
  runs : l.run.linked.node.is_running ≡ true;
  few : turns_of g.L.Link l.run.linked + l.run.left < 2 ^ 63;
  stays : StaysAt g.L.Link l.initial.run.linked l.run.linked;
  on : (first : NodeValue) (n : ℕ) → RunsOn g.L.Link l.packets first n l.initial.run
      → RunsOn g.L.Link l.packets first n l.run;
}

abbrev pub decreases-loop-run : goal.decreases-loop-run
decreases-loop-run g l = l.run.left
