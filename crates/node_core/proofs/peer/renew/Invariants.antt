use Rattle.std.proofs.Common.{◌≡◌, ◌++◌, take, drop}
use Rattle.node_core.specs.Value.{peers_anew}
use Rattle.node_core.proofs.peer.renew.Given as goal

abbrev pub invariant-loop-i : goal.invariant-loop-i
invariant-loop-i l = l.peers ≡ peers_anew (take l.i l.initial.peers) ++ drop l.i l.initial.peers
