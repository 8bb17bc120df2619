use Rattle.gw_base.specs.EntryLaws.{present_state_is}
use Rattle.gw_base.proofs.view.present_state_is_that_of_the_epoch.Goals as goal

pub returns : goal.returns
returns c = λ node number h. present_state_is node number h
