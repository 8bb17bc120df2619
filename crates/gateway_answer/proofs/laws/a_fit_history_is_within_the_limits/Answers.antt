use Rattle.gateway_answer.specs.FitHistoryLaws.{fit_is_within, fit_knows_few, last_is_in_range}
use Rattle.gateway_answer.proofs.laws.a_fit_history_is_within_the_limits.Goals as goal

pub returns-clause-moments : goal.returns-clause-moments
returns-clause-moments c = λ size h all. last_is_in_range size h all

pub returns-clause-costs : goal.returns-clause-costs
returns-clause-costs c = λ size h all. fit_is_within size h all

pub returns-clause-nodes : goal.returns-clause-nodes
returns-clause-nodes c = λ size h all. fit_knows_few size h all
