use Rattle.once_core.proofs.WorldOnceLemmas.{starts_rise}
use Rattle.once_core.proofs.world_laws.starts_only_rise.Goals as goal

pub returns : goal.returns
returns c = λ w place reached. starts_rise (assumption) w reached place
