use Rattle.gateway_index.specs.HeldPairs.{held_in}
use Rattle.gateway_index.specs.declared.held_pair.CopyStep.TheVariants.{Hold}
use Rattle.gateway_index.proofs.HeldPairLemmas.{noted}
use Rattle.gateway_index.proofs.held_pair.HeldPair.hold.Goals as goal

pub invariant_of-self-clause-agree : goal.invariant_of-self-clause-agree
unfolding held_in
invariant_of-self-clause-agree c = λ e. let n = c.note-self.ensures.noted e in
    noted c.args.self.now.given.items _ (Hold c.args.node c.args.number) _ _ _ n.1 c.hold_one.ensures.copies
    (c.requires.free, c.requires.few) (c.args.self.now.agree n.0)
