use Rattle.once_core.proofs.TimelyLemmas.{next_taken, sent_fresh}
use Rattle.once_core.proofs.world_laws.what_a_tick_sends_is_not_expired.Goals as goal

pub returns : goal.returns
returns c = record {
  sent = λ w node m g h is. sent_fresh (assumption) (assumption) c.requests_are_of_copies.ensures w is node m g h;
  delivered = λ before tick next node number m is.
      next_taken (assumption) (assumption) c.requests_are_of_copies.ensures before is node tick.rules next.rules tick.turn next.turn number m;
}
