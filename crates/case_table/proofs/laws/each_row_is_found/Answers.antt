use Rattle.case_table.proofs.Found.{found}
use Rattle.case_table.proofs.laws.each_row_is_found.Goals as goal

pub returns : goal.returns
returns c = found
