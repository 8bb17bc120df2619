use Rattle.std.proofs.Common.{◌≡◌, ◌++◌, drop}
use Rattle.node_core.proofs.Names.{all_drawn, AreNumbers, probes, probes_from}
use Rattle.node_core.proofs.tick.probe.Given as goal

abbrev pub invariant-loop-i : goal.invariant-loop-i
invariant-loop-i l =
    (l.sendings.items ++ probes_from l.i l.paths (drop l.i l.gateways) ≡ l.initial.sendings.items ++ probes l.paths l.gateways)
    × (all_drawn (probes_from l.i l.paths (drop l.i l.gateways)) l.peers ≡ all_drawn (probes l.paths l.gateways) l.initial.peers)
    × AreNumbers l.peers
