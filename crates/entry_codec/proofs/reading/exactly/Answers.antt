use Rattle.std.proofs.Common.{sym}
use Rattle.std.proofs.lemmas.Bool.{eqb-true}
use Rattle.entry_codec.proofs.Loops.{exactly_ends}
use Rattle.entry_codec.proofs.reading.exactly.Goals as goal

pub returns-then-is_empty : goal.returns-then-is_empty
returns-then-is_empty c = exactly_ends c.args.wanted.now c.args.octets.now c.loop-want.rest.now c.loop-want.want-index c.loop-want-test.true c.loop-want.invariant (eqb-true _ _ (sym c.if-is_empty.ensures))
