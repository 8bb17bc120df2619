use Rattle.std.proofs.Common.{refl, ◌∙◌}
use Rattle.gateway_book.specs.HeldCopies.{hold_in}
use Rattle.gateway_book.proofs.HeldCopiesLemmas.{none_left, one_dropped_of}
use Rattle.gateway_book.proofs.held_copies.forget_all.Goals as goal

pub loop-number-preserved : goal.loop-number-preserved
loop-number-preserved c =
    one_dropped_of c.args.node c.loop-number.number-index _ c.args.numbers.now (hold_in c.loop-number.holds) (hold_in c.forget.new.holds) c.loop-number-test.true refl c.forget.ensures ∙ c.loop-number.invariant

pub returns : goal.returns
returns c = none_left c.args.node c.loop-number.number-index c.args.numbers.now (hold_in c.loop-number.holds) c.loop-number-test.false ∙ c.loop-number.invariant
