use Rattle.once_core.proofs.WorldOnceLemmas.{tell_states}
use Rattle.once_core.proofs.told_laws.answers_mean_their_state.Goals as goal

pub returns : goal.returns
returns c = tell_states assumption
