use Rattle.node_core.specs.Reached.{log_of}
use Rattle.once_core.proofs.MeantLemmas.{knows}
use Rattle.once_core.proofs.once_laws.a_node_knows_what_it_was_told.Goals as goal

pub returns : goal.returns
returns c = λ setup calls node values some. knows setup calls some node values
    (λ gateway number inside. c.each_number_has_one_role.ensures setup calls gateway number some inside)
    (c.a_gateway_gets_one_copy.ensures setup calls some)
    (c.released_copies_are_chosen.ensures setup calls some)
    (c.knowledge_rests_on_responses.ensures (log_of setup calls))
