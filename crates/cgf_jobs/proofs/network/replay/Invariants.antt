use Rattle.std.proofs.Common.{◌≤◌, ◌-◌, length}
use Rattle.cgf_jobs.specs.NetworkSteps.{HasRun}
use Rattle.cgf_jobs.proofs.network.replay.Given as goal

-- the lines so far were run
abbrev pub invariant-loop-line : goal.invariant-loop-line
invariant-loop-line g l = record {
  run : HasRun l.fn.script.lines l.at l.replay l.printed;
  within : l.at ≤ length l.fn.script.lines;
}

abbrev pub decreases-loop-line : goal.decreases-loop-line
decreases-loop-line g l = length l.fn.script.lines - l.at
