use Rattle.file_writer.proofs.CallsLemmas.{same_of}
use Rattle.file_writer.proofs.laws.sealed_files_get_no_call.Goals as goal

pub returns : goal.returns
returns c = same_of c.division_goes_on.ensures
