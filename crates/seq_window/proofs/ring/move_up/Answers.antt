use Rattle.std.proofs.Common.{◌∙◌, arith}
use Rattle.seq_window.proofs.RingLemmas.{moved_round}
use Rattle.seq_window.proofs.ring.move_up.Goals as goal

pub returns : goal.returns
returns c = record {
  length = c.freshen-3.ensures.length ∙ c.freshen-2.ensures.length;
  inside = omega arith;
  cells = moved_round c.args.count c.args.at c.args.by c.args.cells.now c.freshen-2.new.cells c.freshen-3.new.cells (omega arith) (omega arith) (omega arith) c.freshen-2.ensures.cells c.freshen-3.ensures.cells;
}
