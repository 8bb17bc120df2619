use Rattle.node_core.proofs.NearLemmas.{open_near}
use Rattle.node_core.proofs.laws.open_numbers_stay_near.Goals as goal

pub returns : goal.returns
returns c = open_near
