use Rattle.file_writer.proofs.HoldingLemmas.{first_counted}
use Rattle.file_writer.proofs.laws.first_files_are_counted.Goals as goal

pub returns : goal.returns
returns c = λ settings s m items files first within. first_counted settings s m items files first within
