use Rattle.std.proofs.Common.{◌≡◌, ◌++◌, length, map}
use Rattle.route_filter.specs.Words.{words_of}
use Rattle.route_filter.proofs.text.split_words.Given as goal

-- the words so far, and those of the rest, are all of them
abbrev pub invariant-loop-word : goal.invariant-loop-word
invariant-loop-word l = map (λ word. word.now) l.words.items ++ words_of l.rest ≡ words_of l.line

abbrev pub decreases-loop-word : goal.decreases-loop-word
decreases-loop-word l = length l.rest
