use Rattle.std.proofs.Common.{◌≡◌, ◌+◌, ◌*◌, ◌++◌}
use Rattle.world_script.proofs.Names.{after_words, flat_map, range_with_len, wild_round, word}
use Rattle.world_script.proofs.samples.push_wild_rounds.Given as goal

abbrev pub invariant-loop-n : goal.invariant-loop-n
invariant-loop-n l =
    record {
      lines : l.lines.items ≡ l.initial.lines.items
          ++ flat_map (λ n. wild_round l.extent l.stopped (word l.initial.rng (2 * n)) (word l.initial.rng (2 * n + 1))) (range_with_len 0 l._n);
      words : l.rng ≡ after_words (2 * l._n) l.initial.rng;
    }
