use Rattle.std.proofs.Common.{drop}
use Rattle.area_disk.specs.Stretch.{SameOutside}
use Rattle.area_disk.proofs.stretch.copy_stretches.Given as goal

abbrev pub invariant-stretches : goal.invariant-stretches
invariant-stretches l = SameOutside (drop l.stretch-index l.stretches) l.from l.to
