use Rattle.gateway_answer.specs.FitLaws.{answer_fits}
use Rattle.gateway_answer.proofs.laws.what_is_recorded_is_fit.Goals as goal

pub returns : goal.returns
returns c = λ h from datagram size now who whole last here. answer_fits h from datagram size now who whole last here
