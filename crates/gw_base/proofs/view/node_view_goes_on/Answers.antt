use Rattle.gw_base.specs.ViewLaws.{node_view_of-append}
use Rattle.gw_base.proofs.view.node_view_goes_on.Goals as goal

pub returns : goal.returns
returns c = λ node h e. node_view_of-append node h e
