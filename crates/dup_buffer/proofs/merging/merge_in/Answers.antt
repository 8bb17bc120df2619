use Rattle.std.proofs.Common.{arith}
use Rattle.dup_buffer.proofs.MergeLemmas.{merged}
use Rattle.dup_buffer.proofs.merging.merge_in.Goals as goal

pub returns : goal.returns
returns c kept size order once whole =
    merged kept c.args.late.now c.loop-j.copies c.loop-j.i c.loop-j.j (omega (arith, c.loop-j-test.false))
    (c.loop-j.invariant.3 kept size order once whole)
