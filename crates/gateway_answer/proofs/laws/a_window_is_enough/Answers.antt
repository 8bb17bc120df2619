use Rattle.gateway_index.specs.WindowLaws.{narrowed_fit}
use Rattle.gateway_answer.specs.Fit.{is_packet_fit}
use Rattle.gateway_answer.proofs.WindowLemmas.{agreed_answer, narrowed_answer}
use Rattle.gateway_answer.proofs.laws.a_window_is_enough.Goals as goal

pub returns-clause-meant : goal.returns-clause-meant
returns-clause-meant c = λ o p from datagram room agree. agreed_answer o p from datagram room agree

pub returns-clause-answers : goal.returns-clause-answers
returns-clause-answers c = λ o from datagram room. narrowed_answer o from datagram room

pub returns-clause-fits : goal.returns-clause-fits
returns-clause-fits c = λ of act. narrowed_fit is_packet_fit of act
