use Rattle.std.proofs.Common.{arith}
use Rattle.cgf_journal.proofs.Changes.{begins, ends_free, goes_on}
use Rattle.cgf_journal.proofs.sorted.SortedKeys.free_node.Goals as goal

pub loop-at-init : goal.loop-at-init
loop-at-init c =
    begins c.args.node c.args.self.now c.first_of-at.result c.end_of-end.result (rw c.deref.ensures.value at c.first_of-at.ensures)
    (rw c.deref-2.ensures.value at c.end_of-end.ensures)

pub change-requires : goal.change-requires
change-requires c = omega (arith, c.loop-at-test.true, c.loop-at.invariant.inside.1)

pub loop-at-preserved : goal.loop-at-preserved
loop-at-preserved c = goes_on c.args.node c.args.self.now c.loop-at.self c.change.new.self c.loop-at.at c.end_of-end.result c.loop-at-test.true c.change.ensures c.loop-at.invariant

pub returns-clause-live : goal.returns-clause-live
returns-clause-live c = ends_free c.args.node c.args.self.now c.loop-at.self c.loop-at.at c.end_of-end.result (omega (arith, c.loop-at-test.false)) c.loop-at.invariant

pub returns-clause-grows : goal.returns-clause-grows
returns-clause-grows c = c.loop-at.invariant.grows
