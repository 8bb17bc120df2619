use Rattle.std.proofs.Common.{◌≡◌, ◌-◌, List}
use Rattle.gateway_book.proofs.Names.{area_of, firm_length, gathered_at_last, HistoryEntry, IsAt, IsRead, IsWithin, StandsIn, Told}
use Rattle.gateway_book.proofs.cursor.gather.Given as goal

-- in the end as much is gathered
abbrev pub invariant-loop-cursor : goal.invariant-loop-cursor
invariant-loop-cursor g l = record {
  within : IsWithin (firm_length l.fn.trail) l.cursor;
  at : Told g.A.Area → (h : List HistoryEntry) → StandsIn l.fn.trail h l.fn.cursor → IsAt h l.cursor;
  gathered : Told g.A.Area → (h : List HistoryEntry) → StandsIn l.fn.trail h l.fn.cursor → gathered_at_last h l.cursor.entry l.into ≡ gathered_at_last h l.fn.cursor.entry l.fn.into;
  read : IsRead l.fn.trail l.trail;
  faults : g.A.Area.faults (area_of l.trail) ≡ g.A.Area.faults (area_of l.fn.trail);
}

abbrev pub decreases-loop-cursor : goal.decreases-loop-cursor
decreases-loop-cursor g l = firm_length l.fn.trail - l.cursor.entry
