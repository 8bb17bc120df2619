use Rattle.loop_tests.proofs.AuditLemmas.{keeps_all}
use Rattle.loop_tests.proofs.audits.ran.Goals as goal

pub returns : goal.returns
returns g c =
    keeps_all g.L.Link c.args.linked.node c.run-end.result.1 _
    c.nodes_of_a_loop_keep_all.ensures.kept c.requires.made c.in-Spent.is c.run-end.ensures.ends
