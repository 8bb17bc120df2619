use Rattle.std.proofs.Common.{map}
use Rattle.route_filter.proofs.Cuts.{step_words}
use Rattle.route_filter.proofs.text.split_words.Goals as goal

pub loop-word-preserved : goal.loop-word-preserved
loop-word-preserved c =
    step_words (map (λ w. w.now) c.loop-word.words.items) (map (λ w. w.now) c.push_word.new.words.items) c.loop-word.rest.now c.in-Some.word.now c.in-Some.later.now _
    c.in-Some.ensures.parts c.in_ok-push_word.ensures c.loop-word.invariant
