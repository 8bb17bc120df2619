use Rattle.std.proofs.Common.{◌≡◌, ◌<◌, ◌≤◌, ◌-◌}
use Rattle.gate_journal.proofs.Names.{AreBelow, IsTrue, Kept}
use Rattle.gate_journal.proofs.reading.scan.Given as goal

abbrev pub invariant-batches : goal.invariant-batches
invariant-batches g l = record {
  low : 32 ≤ l.at;
  high : l.at < g.A.Area.size l.fn.area;
  below : IsTrue g.A.Area.tells_octets → AreBelow l.at (g.A.Area.octets l.fn.area);
  kept : Kept g.A.Area l.fn.area l.area;
  faults : g.A.Area.faults l.area ≡ g.A.Area.faults l.fn.area;
}

abbrev pub decreases-batches : goal.decreases-batches
decreases-batches g l = g.A.Area.size l.fn.area - l.at
