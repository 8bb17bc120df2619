use Rattle.gw_base.proofs.HeldLemmas.{state_is_held}
use Rattle.gw_base.proofs.held.held_keys_are_those_in_that_state.Goals as goal

pub returns : goal.returns
returns c = λ node number h. state_is_held node number h
