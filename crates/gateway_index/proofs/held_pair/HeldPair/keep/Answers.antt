use Rattle.std.proofs.Common.{rules}
use Rattle.gateway_index.specs.HeldPairs.{held_in}
use Rattle.gateway_index.proofs.PairLemmas.{both_are, same_sides}
use Rattle.gateway_index.proofs.held_pair.HeldPair.keep.Goals as goal

pub make_same-requires-clause-given : goal.make_same-requires-clause-given
make_same-requires-clause-given c = λ e. rw c.deref.ensures.value (c.args.self.now.agree e)

pub invariant_of-self : goal.invariant_of-self
invariant_of-self c = search rules

pub returns-then-is_same : goal.returns-then-is_same
unfolding held_in
returns-then-is_same c = λ side. same_sides (λ a. held_in a c.args.self.now) (c.is_same.ensures.same c.if-is_same.true) side c.args.firm

pub returns : goal.returns
unfolding held_in
returns c = both_are c.make_same.ensures.firm c.make_same.ensures.live
