use Rattle.replay_gateway.proofs.ReportLemmas.{reports_all}
use Rattle.replay_gateway.proofs.RestLemmas.{gateway_at_rest}
use Rattle.replay_gateway.proofs.laws.a_gateway_that_wrote_all_rests.Goals as goal

pub returns-clause-reports : goal.returns-clause-reports
returns-clause-reports c = λ setup place g m is. reports_all setup place g m is

pub returns-clause-rests : goal.returns-clause-rests
returns-clause-rests c = λ setup place g m area shelf settled is. gateway_at_rest setup place g m area shelf is settled
