use Rattle.std.proofs.Common.{arith, length-drop}
use Rattle.node_core.proofs.SettledLemmas.{done_settled, resolved_settled}
use Rattle.node_core.proofs.packets.Packets.tally.Goals as goal

pub returns-clause-tally : goal.returns-clause-tally
returns-clause-tally c = search (arith, length-drop, resolved_settled, done_settled)
