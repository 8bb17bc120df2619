use Rattle.cdr_shelf.specs.FileLaws.{file_named-append}
use Rattle.cdr_shelf.proofs.laws.sealed_files_stay.Goals as goal

pub returns : goal.returns
returns c = file_named-append
