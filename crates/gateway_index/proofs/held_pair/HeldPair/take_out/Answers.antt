use Rattle.gateway_index.specs.declared.held_pair.CopyStep.TheVariants.{Take}
use Rattle.gateway_index.proofs.HeldPairLemmas.{noted}
use Rattle.gateway_index.proofs.held_pair.HeldPair.take_out.Goals as goal

pub invariant_of-self-clause-agree : goal.invariant_of-self-clause-agree
invariant_of-self-clause-agree c = λ e. let n = c.note-self.ensures.noted e in
    noted c.args.self.now.given.items _ (Take c.args.node c.args.number) _ _ _ n.1 c.take_one.ensures.copies tt (c.args.self.now.agree n.0)
