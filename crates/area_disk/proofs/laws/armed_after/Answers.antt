use Rattle.area_disk.specs.ArmedLaws.{armed_after}
use Rattle.area_disk.proofs.laws.armed_after.Goals as goal

pub returns : goal.returns
returns c = armed_after
