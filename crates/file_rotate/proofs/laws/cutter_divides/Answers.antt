use Rattle.std.proofs.Common.{[]}
use Rattle.file_rotate.proofs.CuttingLemmas.{marked_is_divided}
use Rattle.file_rotate.proofs.laws.cutter_divides.Goals as goal

pub returns : goal.returns
returns g c = λ limits items. marked_is_divided limits [] items
