use Rattle.cdr_shelf.specs.FileLaws.{in_stream-append, greatest_in-append}
use Rattle.cdr_shelf.proofs.laws.sealed_files_go_on.Goals as goal

pub returns-clause-listed : goal.returns-clause-listed
returns-clause-listed c = in_stream-append

pub returns-clause-greatest : goal.returns-clause-greatest
returns-clause-greatest c = greatest_in-append
