use Rattle.once_core.proofs.WorldOnceLemmas.{is_made}
use Rattle.once_core.proofs.shown_laws.each_world_is_made_by_happenings.Goals as goal

pub returns : goal.returns
returns c = is_made assumption
