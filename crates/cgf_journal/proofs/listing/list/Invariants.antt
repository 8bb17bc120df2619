use Rattle.std.proofs.Common.{◌≡◌, ◌-◌, ◌≤◌}
use Rattle.cgf_journal.proofs.Names.{AreListed, batches, end, IsJudged, IsTakenUpTo}
use Rattle.gate_journal.specs.Journal.{area_of}
use Rattle.gate_journal.specs.Kept.{IsKept}
use Rattle.cgf_journal.proofs.listing.list.Given as goal

abbrev pub invariant-loop-gate : goal.invariant-loop-gate
invariant-loop-gate g l = record {
  taken : IsTakenUpTo (AreListed g.A.Area (batches l.fn.journal)) (IsJudged g.J.Judge l.size l.judge) l.size l.gate l.listing.places l.listing.tally;
  high : l.gate ≤ end l.fn.journal;
  kept : IsKept {tells = g.A.Area} l.fn.journal l.journal;
  faults : g.A.Area.faults (area_of l.journal) ≡ g.A.Area.faults (area_of l.fn.journal);
}

abbrev pub decreases-loop-gate : goal.decreases-loop-gate
decreases-loop-gate g l = l.end - l.gate
