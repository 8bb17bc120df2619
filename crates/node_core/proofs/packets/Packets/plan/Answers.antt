use Rattle.std.proofs.Common.{◌≡◌, arith}
use Rattle.node_core.specs.Sendings.{due_for_all}
use Rattle.node_core.proofs.SettledLemmas.{due_settled}
use Rattle.node_core.proofs.packets.Packets.plan.Goals as goal
use Rattle.node_core.proofs.packets.Packets.plan.Goals.{In_ok-plan_all}

due : (c : In_ok-plan_all) → due_for_all c.args.aim.favourite c.args.aim.is_alive c.args.peers.now c.open-unsettled.result.now
    ≡ due_for_all c.args.aim.favourite c.args.aim.is_alive c.args.peers.now c.args.self.now.packets
due c = search (arith, due_settled)

pub returns-clause-sendings : goal.returns-clause-sendings
returns-clause-sendings c = search (arith, due)

pub returns-clause-peers : goal.returns-clause-peers
returns-clause-peers c = search (arith, due)
