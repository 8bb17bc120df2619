use Rattle.area_disk.specs.ArmedLaws.{arms_fail}
use Rattle.area_disk.proofs.laws.arms_fail.Goals as goal

pub returns : goal.returns
returns c = arms_fail
