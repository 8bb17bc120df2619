use Rattle.std.proofs.Common.{[]}
use Rattle.gateway_answer.specs.FitHistoryLaws.{fit_more, fit_parts}
use Rattle.gateway_answer.proofs.laws.fit_histories_go_on.Goals as goal

pub returns-clause-more : goal.returns-clause-more
returns-clause-more c = λ size h e all one. fit_more size [] h e all one

pub returns-clause-parts : goal.returns-clause-parts
returns-clause-parts c = λ size h e all. fit_parts size [] h e all
