use Rattle.gateway_answer.specs.OnceLaws.{filed_at_most_once}
use Rattle.gateway_answer.proofs.laws.each_record_is_filed_once.Goals as goal

pub returns : goal.returns
returns c = λ key index size h all. filed_at_most_once key index size h all
