use Rattle.area_disk.specs.ArmedLaws.{armed_next}
use Rattle.area_disk.proofs.laws.armed_next.Goals as goal

pub returns : goal.returns
returns c = armed_next
