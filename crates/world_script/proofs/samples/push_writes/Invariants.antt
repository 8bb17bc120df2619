use Rattle.std.proofs.Common.{◌≡◌, ◌++◌, [], ◌∷◌}
use Rattle.std.specs.List.{flat_map, range_with_len}
use Rattle.world_script.specs.declared.line.Line.TheVariants as line
use Rattle.world_script.proofs.samples.push_writes.Given as goal

abbrev pub invariant-loop-gateway : goal.invariant-loop-gateway
invariant-loop-gateway l =
    l.lines.items ≡ l.initial.lines.items ++ flat_map (λ g. line.Mark g ∷ line.Write g ∷ []) (range_with_len 1 l.gateway)
