use Rattle.area_disk.specs.ArmedLaws.{stopped_fails}
use Rattle.area_disk.proofs.laws.stopped_fails.Goals as goal

pub returns-clause-calls : goal.returns-clause-calls
returns-clause-calls c = λ s stopped. (stopped_fails s stopped).0

pub returns-clause-reads : goal.returns-clause-reads
returns-clause-reads c = λ s stopped. (stopped_fails s stopped).1
