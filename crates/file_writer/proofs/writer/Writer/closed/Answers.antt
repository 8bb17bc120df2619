use Rattle.std.proofs.Common.{◌∙◌, arith}
use Rattle.std.proofs.lemmas.List.{length-set}
use Rattle.file_writer.proofs.LeavingLemmas.{no_stream, one_closed}
use Rattle.file_writer.proofs.writer.Writer.closed.Goals as goal

pub loop-s-preserved : goal.loop-s-preserved
loop-s-preserved g c = search (arith, length-set, one_closed)

pub returns : goal.returns
returns g c = λ closed items at s h. c.loop-s.invariant.1 s no_stream (omega arith) ∙ (at s no_stream h).has_closed
