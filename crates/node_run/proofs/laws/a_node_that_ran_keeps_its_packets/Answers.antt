use Rattle.node_run.proofs.KeepingLemmas.{ran_keeps}
use Rattle.node_run.proofs.laws.a_node_that_ran_keeps_its_packets.Goals as goal

pub returns : goal.returns
returns c setup packets turns few = ran_keeps c.each_call_goes_on.ensures setup packets turns few
