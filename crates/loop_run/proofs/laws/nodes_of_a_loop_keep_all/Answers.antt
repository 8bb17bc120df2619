use Rattle.std.proofs.Common.{arith}
use Rattle.loop_run.proofs.Names.{node_after, node_made, node_setup}
use Rattle.loop_run.proofs.KeptLemmas.{keeps_all, none_open}
use Rattle.loop_run.proofs.laws.nodes_of_a_loop_keep_all.Goals as goal

pub returns-clause-kept : goal.returns-clause-kept
returns-clause-kept c setup place turns within = keeps_all c.a_node_that_ran_was_called.ensures
    c.a_gateway_gets_one_copy.ensures c.a_node_that_ran_keeps_its_packets.ensures c.a_log_keeps_its_gateways.ensures setup place turns
    within

pub returns-clause-done : goal.returns-clause-done
returns-clause-done c setup place turns within all = none_open setup.packets
    (node_after setup.packets (node_made setup place) turns)
    (c.a_node_that_ran_keeps_its_packets.ensures (node_setup setup place) setup.packets turns
    (let most = within.most_packets in omega (arith, most))) all
