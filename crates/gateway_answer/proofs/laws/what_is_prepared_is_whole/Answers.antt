use Rattle.gateway_answer.specs.PreparingLaws.{prepared_is_whole}
use Rattle.gateway_answer.proofs.laws.what_is_prepared_is_whole.Goals as goal

pub returns : goal.returns
returns c = λ octets. prepared_is_whole c.a_role_reads_what_is_read.ensures c.what_is_read_may_be_sent.ensures octets
