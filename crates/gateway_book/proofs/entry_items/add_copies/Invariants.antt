use Rattle.std.proofs.Common.{◌≡◌, List, drop}
use Rattle.gateway_book.proofs.Names.{area_of, AreBelow, AreHeldIn, firm_length, gathered, HistoryEntry, IsRead, places_of, Told}
use Rattle.gateway_book.proofs.ItemsLemmas.{released_items}
use Rattle.gateway_book.proofs.entry_items.add_copies.Given as goal

-- with what the numbers that are left release, as much is gathered
abbrev pub invariant-loop-number : goal.invariant-loop-number
invariant-loop-number g l = record {
  below : AreBelow (firm_length l.trail) (places_of l.copies);
  items : Told g.A.Area → (before : List HistoryEntry) → AreHeldIn l.fn.trail (places_of l.copies) before
      → gathered (released_items before l.moment l.node (drop l.number-index l.numbers)) l.into ≡ gathered (released_items before l.moment l.node l.numbers) l.fn.into;
  read : IsRead l.fn.trail l.trail;
  faults : g.A.Area.faults (area_of l.trail) ≡ g.A.Area.faults (area_of l.fn.trail);
}
