use Rattle.node_session.proofs.OwnedLemmas.{are_answers}
use Rattle.node_session.proofs.laws.each_entry_is_an_answer.Goals as goal

pub returns : goal.returns
returns g c = λ jobs start now passes adds owned. are_answers _ jobs start now passes adds owned
