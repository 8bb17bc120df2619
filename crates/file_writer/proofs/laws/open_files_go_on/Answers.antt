use Rattle.file_writer.proofs.AmongLemmas.{open_go_on}
use Rattle.file_writer.proofs.laws.open_files_go_on.Goals as goal

pub returns : goal.returns
returns c = open_go_on c.division_goes_on.ensures
