use Rattle.seq_window.proofs.LawLemmas.{one_set_more, sets_are}
use Rattle.seq_window.proofs.laws.the_last_set_decides.Goals as goal

pub returns-clause-all : goal.returns-clause-all
returns-clause-all c = sets_are

pub returns-clause-one_more : goal.returns-clause-one_more
returns-clause-one_more c = one_set_more
