use Rattle.std.proofs.Common.{arith}
use Rattle.world_script.proofs.SampleLemmas.{stormy_stopped, stormy_words}
use Rattle.world_script.proofs.samples.push_stormy.Goals as goal

pub returns-clause-lines : goal.returns-clause-lines
returns-clause-lines c =
    stormy_stopped c.args.extent c.args.rng.now c.next_word.new.self c.next_word.result c.args.lines.now.items _ (omega (arith, c.if-extent-lt2.false))
    c.next_word.ensures c.in_ok-push_stopped.ensures.lines

pub returns-clause-words : goal.returns-clause-words
returns-clause-words c =
    stormy_words c.args.extent c.args.rng.now c.next_word.new.self _ c.next_word.result (omega (arith, c.if-extent-lt2.false))
    c.next_word.ensures c.in_ok-push_stopped.ensures.words
