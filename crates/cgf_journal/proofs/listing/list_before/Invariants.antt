use Rattle.std.proofs.Common.{◌≡◌, ◌⊎◌, ◌-◌, ◌≤◌}
use Rattle.cgf_journal.proofs.Names.{AreListedBefore, IsJudged, IsTakenUpTo, Kept}
use Rattle.cgf_journal.proofs.listing.list_before.Given as goal

abbrev pub invariant-loop-gate : goal.invariant-loop-gate
invariant-loop-gate g l = record {
  low : 32 ≤ l.gate;
  taken : IsTakenUpTo (AreListedBefore g.A.Area.tells_octets (g.A.Area.octets l.fn.area) l.fn.end) (IsJudged g.J.Judge l.size l.judge) l.size l.gate l.listing.places l.listing.tally;
  high : (l.gate ≡ 32) ⊎ (l.gate ≤ l.end);
  kept : Kept g.A.Area l.fn.area l.area;
  faults : g.A.Area.faults l.area ≡ g.A.Area.faults l.fn.area;
}

abbrev pub decreases-loop-gate : goal.decreases-loop-gate
decreases-loop-gate g l = l.end - l.gate
