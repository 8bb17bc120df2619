use Rattle.gw_base.proofs.StartLemmas.{last_start}
use Rattle.gw_base.proofs.starts.start_is_that_of_the_present_epoch.Goals as goal

pub returns : goal.returns
returns c = λ node h. last_start node h
