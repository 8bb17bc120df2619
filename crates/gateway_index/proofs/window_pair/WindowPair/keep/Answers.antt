use Rattle.std.proofs.Common.{sym, ◌∙◌}
use Rattle.gateway_index.specs.WindowPairs.{seen_in}
use Rattle.gateway_index.proofs.PairLemmas.{both_are, same_sides}
use Rattle.gateway_index.proofs.window_pair.WindowPair.keep.Goals as goal

pub make_same-requires : goal.make_same-requires
make_same-requires c = λ e. rw c.deref.ensures.value (c.args.self.now.agree e)

pub invariant_of-self : goal.invariant_of-self
invariant_of-self c = record { agree = λ e. rw c.clear.ensures.items (tt, c.make_same.ensures.firm ∙ sym c.make_same.ensures.live) }

pub returns-then-is_same : goal.returns-then-is_same
unfolding seen_in
returns-then-is_same c = λ side. same_sides (λ a. seen_in a c.args.self.now) (c.is_same.ensures.same c.if-is_same.true) side c.args.firm

pub returns : goal.returns
unfolding seen_in
returns c = both_are c.make_same.ensures.firm c.make_same.ensures.live
