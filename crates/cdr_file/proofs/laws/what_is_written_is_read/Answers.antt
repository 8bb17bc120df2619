use Rattle.cdr_file.proofs.WrittenLemmas.{written_again}
use Rattle.cdr_file.proofs.laws.what_is_written_is_read.Goals as goal

pub returns : goal.returns
returns c = written_again
