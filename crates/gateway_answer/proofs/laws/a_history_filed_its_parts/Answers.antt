use Rattle.gateway_answer.proofs.CountLemmas.{records_filed}
use Rattle.gateway_answer.proofs.laws.a_history_filed_its_parts.Goals as goal

pub returns : goal.returns
returns c = λ h. records_filed h
