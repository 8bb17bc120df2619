use Rattle.file_writer.proofs.FilesLemmas.{files-append}
use Rattle.file_writer.proofs.laws.files_only_grow.Goals as goal

pub returns : goal.returns
returns c = λ settings s items more. files-append c.division_goes_on.ensures settings s items more
