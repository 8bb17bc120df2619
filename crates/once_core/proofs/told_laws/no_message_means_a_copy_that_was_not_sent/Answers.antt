use Rattle.once_core.proofs.WorldOnceLemmas.{mean_copies}
use Rattle.once_core.proofs.told_laws.no_message_means_a_copy_that_was_not_sent.Goals as goal

pub returns : goal.returns
returns c = mean_copies assumption
