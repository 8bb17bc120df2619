use Rattle.once_core.proofs.WorldOnceLemmas.{reached_alike, reached_by}
use Rattle.once_core.specs.ReachedLaws.{reached_on}
use Rattle.once_core.proofs.world_laws.turns_reach_worlds.Goals as goal

pub returns-clause-each : goal.returns-clause-each
returns-clause-each c = reached_by

pub returns-clause-alike : goal.returns-clause-alike
returns-clause-alike c = reached_alike

pub returns-clause-on : goal.returns-clause-on
returns-clause-on c = reached_on
