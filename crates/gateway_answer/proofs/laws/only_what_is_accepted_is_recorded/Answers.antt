use Rattle.gateway_answer.specs.Answer.{answer_by}
use Rattle.gateway_answer.specs.AnswerLaws.{records_accepted, refused_records_nothing}
use Rattle.gateway_answer.proofs.laws.only_what_is_accepted_is_recorded.Goals as goal

pub returns-clause-records : goal.returns-clause-records
returns-clause-records c = λ o from datagram may. records_accepted o from datagram may

pub returns-clause-refused : goal.returns-clause-refused
returns-clause-refused c = λ o from datagram may number cause responded act is other.
    refused_records_nothing (answer_by o from datagram may) (records_accepted o from datagram may) number cause responded act is other
