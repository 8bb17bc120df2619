use Rattle.once_core.proofs.WorldOnceLemmas.{each_world_is_once}
use Rattle.once_core.proofs.world_laws.each_record_is_filed_once.Goals as goal

pub returns : goal.returns
returns c = each_world_is_once assumption
