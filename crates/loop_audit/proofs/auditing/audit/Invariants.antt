use Rattle.std.proofs.Common.{◌≡◌, None, take}
use Rattle.std.specs.List.{find}
use Rattle.area_disk.specs.Moments.{Told}
use Rattle.loop_audit.specs.Audit.{all_looked, is_wrong}
use Rattle.loop_audit.specs.Standing.{histories_of}
use Rattle.loop_audit.proofs.auditing.audit.Given as goal

-- of the nodes in front none has a packet that is wrong
abbrev pub invariant-loop-node : goal.invariant-loop-node
invariant-loop-node g l = Told g.A.Area →
    find is_wrong (all_looked (histories_of l.books) (take l.node-index l.nodes)) ≡ None
