use Rattle.std.proofs.Common.{[]}
use Rattle.gateway_answer.proofs.Names.{filed_by, items_by}
use Rattle.gateway_answer.specs.FiledLaws.{along-append}
use Rattle.gateway_answer.proofs.laws.filed_records_stay.Goals as goal

pub returns-clause-records : goal.returns-clause-records
returns-clause-records c = λ h g. along-append filed_by [] h g

pub returns-clause-items : goal.returns-clause-items
returns-clause-items c = λ h g. along-append items_by [] h g
