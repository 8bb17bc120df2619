use Rattle.cdr_file.proofs.SpellingLemmas.{file_again}
use Rattle.cdr_file.proofs.laws.what_is_spelled_is_read.Goals as goal

pub returns : goal.returns
returns c = file_again
