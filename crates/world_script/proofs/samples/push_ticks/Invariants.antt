use Rattle.std.proofs.Common.{◌≡◌, ◌++◌, map}
use Rattle.std.specs.List.{range_with_len}
use Rattle.world_script.specs.declared.line.Line.TheVariants as line
use Rattle.world_script.proofs.samples.push_ticks.Given as goal

abbrev pub invariant-loop-node : goal.invariant-loop-node
invariant-loop-node l =
    l.lines.items ≡ l.initial.lines.items ++ map line.Tick (range_with_len 1 l.node)
