use Rattle.gw_base.specs.EntryLaws.{state_of-append}
use Rattle.gw_base.proofs.view.key_state_goes_on.Goals as goal

pub returns : goal.returns
returns c = λ key h e. state_of-append key h e
