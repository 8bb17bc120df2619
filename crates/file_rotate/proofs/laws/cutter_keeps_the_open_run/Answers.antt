use Rattle.file_rotate.proofs.GoingOnLemmas.{file_of-left_open}
use Rattle.file_rotate.proofs.laws.cutter_keeps_the_open_run.Goals as goal

pub returns : goal.returns
returns g c = λ limits run items. file_of-left_open limits run items
