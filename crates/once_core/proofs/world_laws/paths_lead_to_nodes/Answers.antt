use Rattle.once_core.proofs.LifeWorlds.{PathsLead, paths_lead}
use Rattle.once_core.proofs.WorldOnceLemmas.{by_reached}
use Rattle.once_core.proofs.world_laws.paths_lead_to_nodes.Goals as goal

pub returns : goal.returns
returns c = λ w place g reached. by_reached PathsLead (paths_lead assumption) w reached place g
