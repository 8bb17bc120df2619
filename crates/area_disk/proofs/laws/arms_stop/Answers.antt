use Rattle.area_disk.specs.ArmedLaws.{arms_stop}
use Rattle.area_disk.proofs.laws.arms_stop.Goals as goal

pub returns : goal.returns
returns c = arms_stop
