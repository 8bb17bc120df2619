use Rattle.std.proofs.Common.{append-nil, sym}
use Rattle.world_script.proofs.SampleLemmas.{no_words, wild_step}
use Rattle.world_script.proofs.samples.push_wild_rounds.Goals as goal

pub loop-n-init : goal.loop-n-init
loop-n-init c = record { lines = sym (append-nil c.args.lines.now.items); words = no_words c.args.rng.now }

pub loop-n-preserved : goal.loop-n-preserved
loop-n-preserved c =
    let step = wild_step c.args.extent c.args.stopped c.args.rng.now c.loop-n.rng _ _ c.loop-n._n _ _ c.args.lines.now.items c.loop-n.lines.items _
    c.loop-n.invariant.words c.next_word-first.ensures c.next_word-second.ensures c.loop-n.invariant.lines c.in_ok-push_wild_round.ensures in
    record { lines = step.0; words = step.1 }
