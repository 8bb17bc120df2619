use Rattle.file_rotate.proofs.CuttingLemmas.{cuts-kept, file_of-run_after}
use Rattle.file_rotate.proofs.laws.cutter_keeps_the_run.Goals as goal

pub returns-clause-cuts : goal.returns-clause-cuts
returns-clause-cuts g c = λ limits run item. cuts-kept limits run item

pub returns-clause-kept : goal.returns-clause-kept
returns-clause-kept g c = λ limits run item. file_of-run_after limits run item
