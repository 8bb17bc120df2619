use Rattle.std.proofs.Common.{append-nil, sym}
use Rattle.world_script.proofs.SampleLemmas.{block_step, begins}
use Rattle.world_script.proofs.samples.push_blocks.Goals as goal

pub loop-n-init : goal.loop-n-init
loop-n-init c = record { lines = sym (append-nil c.args.lines.now.items); words = begins c.args.extent c.args.rng.now }

pub loop-n-preserved : goal.loop-n-preserved
loop-n-preserved c =
    let step = block_step c.args.extent c.args.rng.now c.loop-n.rng _ c.loop-n.n c.args.lines.now.items c.loop-n.lines.items _
    c.loop-n.invariant.words c.in_ok-push_block.ensures.words c.loop-n.invariant.lines c.in_ok-push_block.ensures.lines in
    record { lines = step.0; words = step.1 }
