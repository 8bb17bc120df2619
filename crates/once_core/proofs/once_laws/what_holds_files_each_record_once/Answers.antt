use Rattle.once_core.proofs.OnceLemmas.{each_of_scene}
use Rattle.once_core.proofs.once_laws.what_holds_files_each_record_once.Goals as goal

pub returns : goal.returns
returns c = each_of_scene
