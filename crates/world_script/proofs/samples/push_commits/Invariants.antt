use Rattle.std.proofs.Common.{◌≡◌, ◌++◌, map, filter}
use Rattle.world_script.proofs.Names.{range_with_len, runs}
use Rattle.world_script.specs.declared.line.Line.TheVariants as line
use Rattle.world_script.proofs.samples.push_commits.Given as goal

abbrev pub invariant-loop-gateway : goal.invariant-loop-gateway
invariant-loop-gateway l =
    l.lines.items ≡ l.initial.lines.items ++ map line.Commit (filter (runs l.stopped) (range_with_len 1 l.gateway))
