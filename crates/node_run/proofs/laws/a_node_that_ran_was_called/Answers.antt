use Rattle.node_run.proofs.CallLemmas.{ran_called}
use Rattle.node_run.proofs.laws.a_node_that_ran_was_called.Goals as goal

pub returns : goal.returns
returns c setup packets turns few = ran_called
    (λ s call calls. c.each_call_goes_on.ensures s call calls) setup packets turns few
