use Rattle.gateway_answer.specs.FitHistoryLaws.{sealed_was_fresh}
use Rattle.gateway_answer.proofs.laws.each_number_is_sealed_once.Goals as goal

pub returns : goal.returns
returns c = λ size h e node number all seal. sealed_was_fresh size h e node number all seal
