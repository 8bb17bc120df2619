use Rattle.gateway_index.specs.WindowPairs.{seen_in}
use Rattle.gateway_index.proofs.PairLemmas.{noted}
use Rattle.gateway_index.proofs.window_pair.WindowPair.set.Goals as goal

pub invariant_of-self : goal.invariant_of-self
unfolding seen_in
invariant_of-self c = record {
  agree = λ e. let n = c.note-self.ensures.noted e in
      noted c.args.self.now.given.items _ (record { number = c.args.number; state = c.args.state }) _ _ _ n.1 c.set.ensures
      (c.requires.not_below, c.requires.high) (c.args.self.now.agree n.0);
}
