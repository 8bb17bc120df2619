use Rattle.std.proofs.Common.{◌≡◌, ◌≤◌, ◌++◌, ◌-◌, length, drop}
use Rattle.replay_gateway.proofs.Names.{flat_map, rules_in_line}
use Rattle.replay_gateway.proofs.settings.rules_of.Given as goal

-- the rules of the lines so far were added, and those of the others have room
abbrev pub invariant-loop-line : goal.invariant-loop-line
invariant-loop-line l = record {
  rules : l.rules ++ flat_map rules_in_line (drop l.k l.script.lines) ≡ flat_map rules_in_line l.script.lines;
  within : l.k ≤ length l.script.lines;
}

abbrev pub decreases-loop-line : goal.decreases-loop-line
decreases-loop-line l = length l.script.lines - l.k
