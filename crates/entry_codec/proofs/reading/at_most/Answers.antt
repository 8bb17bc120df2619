use Rattle.std.proofs.Common.{sym}
use Rattle.std.proofs.lemmas.Bool.{eqb-true}
use Rattle.entry_codec.proofs.Loops.{at_most_ends}
use Rattle.entry_codec.proofs.reading.at_most.Goals as goal

pub returns-then-is_empty-clause-reading : goal.returns-then-is_empty-clause-reading
returns-then-is_empty-clause-reading c = at_most_ends c.args.bound.now c.args.octets.now c.loop-i.rest.now c.loop-i.i c.loop-i-test.true c.loop-i.invariant.reads (eqb-true _ _ (sym c.if-is_empty.ensures))
