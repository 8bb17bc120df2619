use Rattle.std.proofs.Common.{◌≤◌, ◌-◌, length}
use Rattle.cgf_jobs.specs.NetworkSteps.{IsAt}
use Rattle.cgf_jobs.proofs.network.drill.Given as goal

-- the lines so far were run
abbrev pub invariant-loop-line : goal.invariant-loop-line
invariant-loop-line g l = record {
  run : IsAt l.fn.script.lines l.at l.replay;
  within : l.at ≤ length l.fn.script.lines;
}

abbrev pub decreases-loop-line : goal.decreases-loop-line
decreases-loop-line g l = length l.fn.script.lines - l.at
