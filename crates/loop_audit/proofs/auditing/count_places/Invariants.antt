use Rattle.std.proofs.Common.{◌≡◌, ◌≤◌, count_by, take}
use Rattle.area_disk.specs.Moments.{Told}
use Rattle.node_core.specs.Counting.{copies_among}
use Rattle.loop_audit.specs.Audit.{stands_at}
use Rattle.loop_audit.specs.Standing.{histories_of}
use Rattle.loop_audit.proofs.auditing.count_places.Given as goal

-- the copies in front were counted
abbrev pub invariant-loop-k : goal.invariant-loop-k
invariant-loop-k g l = record {
  few : l.places ≤ l.k;
  counted : Told g.A.Area →
      l.places ≡ count_by (stands_at (histories_of l.books) l.node) (take l.k (copies_among l.node.packets l.number));
}
