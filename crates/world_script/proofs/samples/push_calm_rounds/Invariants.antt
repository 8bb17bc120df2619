use Rattle.std.proofs.Common.{◌≡◌, ◌++◌}
use Rattle.world_script.proofs.Names.{calm_round, flat_map, range_with_len}
use Rattle.world_script.proofs.samples.push_calm_rounds.Given as goal

abbrev pub invariant-loop-n : goal.invariant-loop-n
invariant-loop-n l =
    l.lines.items ≡ l.initial.lines.items ++ flat_map (λ _. calm_round l.extent) (range_with_len 0 l._n)
