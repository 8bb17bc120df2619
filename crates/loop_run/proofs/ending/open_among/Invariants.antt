use Rattle.std.proofs.Common.{◌≡◌, ◌*◌, ◌^◌, take}
use Rattle.loop_run.proofs.Names.{open_of, open_packets, UpTo}
use Rattle.loop_run.proofs.ending.open_among.Given as goal

-- those of the nodes in front were found
abbrev pub invariant-loop-node : goal.invariant-loop-node
invariant-loop-node l = record {
  found : l.found ≡ open_of (open_packets l.packets (take l.node-index l.nodes));
  few : UpTo (l.node-index * 2 ^ 32) l.found;
}
