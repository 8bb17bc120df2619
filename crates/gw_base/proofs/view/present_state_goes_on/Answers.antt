use Rattle.gw_base.specs.EntryLaws.{present_state-append}
use Rattle.gw_base.proofs.view.present_state_goes_on.Goals as goal

pub returns : goal.returns
returns c = λ node number h e. present_state-append node number h e
