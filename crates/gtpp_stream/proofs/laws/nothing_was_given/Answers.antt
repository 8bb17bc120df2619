use Rattle.gtpp_stream.proofs.DeframerLemmas.{follows_nothing}
use Rattle.gtpp_stream.proofs.laws.nothing_was_given.Goals as goal

pub returns : goal.returns
returns c = follows_nothing
