use Rattle.std.proofs.Common.{◌≡◌, ◌++◌, drop}
use Rattle.node_core.proofs.Names.{all_drawn, AreNumbers, due_for_all, planned}
use Rattle.node_core.proofs.plan.plan_all.Given as goal

abbrev pub invariant-loop-packet : goal.invariant-loop-packet
invariant-loop-packet l =
    (l.after.items ++ planned l.aim.favourite l.aim.is_alive l.peers (drop l.packet-index l.packets)
    ≡ l.initial.after.items ++ planned l.aim.favourite l.aim.is_alive l.initial.peers l.packets)
    × (l.sendings.items ++ due_for_all l.aim.favourite l.aim.is_alive l.peers (drop l.packet-index l.packets)
    ≡ l.initial.sendings.items ++ due_for_all l.aim.favourite l.aim.is_alive l.initial.peers l.packets)
    × (all_drawn (due_for_all l.aim.favourite l.aim.is_alive l.peers (drop l.packet-index l.packets)) l.peers
    ≡ all_drawn (due_for_all l.aim.favourite l.aim.is_alive l.initial.peers l.packets) l.initial.peers)
    × AreNumbers l.peers
