use Rattle.std.proofs.Common.{◌≡◌, ◌≤◌, ◌+◌, ◌-◌, length, drop}
use Rattle.cgf_jobs.proofs.Names.{fed_from, fed_of, setup_of, state_of, with_print}
use Rattle.replay_gateway.specs.Settings.{AreSound}
use Rattle.cgf_jobs.proofs.feed.report.Given as goal

-- what was printed, and what is printed for the lines that are left
abbrev pub invariant-loop-line : goal.invariant-loop-line
invariant-loop-line l = record {
  fed : with_print l.feed.printed.items (fed_from (setup_of l.fn.script.lines) (l.at + 1) (state_of l.feed) (drop l.at l.fn.script.lines)) ≡ fed_of l.fn.script.lines;
  sound : AreSound l.settings;
  within : l.at ≤ length l.fn.script.lines;
}

abbrev pub decreases-loop-line : goal.decreases-loop-line
decreases-loop-line l = length l.fn.script.lines - l.at
