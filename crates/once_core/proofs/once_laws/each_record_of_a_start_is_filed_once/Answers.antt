use Rattle.once_core.proofs.OnceLemmas.{each_is_filed_once}
use Rattle.once_core.proofs.once_laws.each_record_of_a_start_is_filed_once.Goals as goal

pub returns : goal.returns
returns c = each_is_filed_once
