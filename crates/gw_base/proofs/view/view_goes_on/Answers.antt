use Rattle.gw_base.specs.ViewLaws.{view_of-append}
use Rattle.gw_base.proofs.view.view_goes_on.Goals as goal

pub returns : goal.returns
returns c = λ h e. view_of-append h e
