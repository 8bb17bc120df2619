use Rattle.loop_tests.proofs.audits.node.Goals as goal

pub ran-requires-clause-made : goal.ran-requires-clause-made
ran-requires-clause-made g c = c.in-Ok.ensures
