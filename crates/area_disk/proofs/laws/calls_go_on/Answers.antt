use Rattle.area_disk.specs.ArmedLaws.{calls_go_on}
use Rattle.area_disk.proofs.laws.calls_go_on.Goals as goal

pub returns : goal.returns
returns c = calls_go_on
