use Rattle.node_core.proofs.SoonLemmas.{done_near}
use Rattle.node_core.proofs.laws.numbers_stay_near_the_last_settled.Goals as goal

pub returns : goal.returns
returns c = done_near
