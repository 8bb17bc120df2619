use Rattle.std.proofs.Common.{◌≡◌, ◌*◌, ◌++◌}
use Rattle.world_script.proofs.Names.{after_words, block, flat_map, range_with_len, words_of_block}
use Rattle.world_script.proofs.samples.push_blocks.Given as goal

abbrev pub invariant-loop-n : goal.invariant-loop-n
invariant-loop-n l =
    record {
      lines : l.lines.items ≡ l.initial.lines.items
          ++ flat_map (λ n. block l.extent n (after_words (words_of_block l.extent * n) l.initial.rng)) (range_with_len 0 l.n);
      words : l.rng ≡ after_words (words_of_block l.extent * l.n) l.initial.rng;
    }
