use Rattle.std.proofs.Common.{◌≡◌, ◌≤◌, drop, length, map}
use Rattle.gateway_answer.proofs.Names.{AreMarked, held_ones, nearest}
use Rattle.gateway_answer.proofs.ListsLemmas.{held_from}
use Rattle.gateway_answer.proofs.listing.find_many.Given as goal

-- those found so far go on to the held ones of all the numbers, and their sequence numbers are marked; they are no
-- more than were looked at
abbrev pub invariant-loop-place : goal.invariant-loop-place
invariant-loop-place g l = record {
  held : held_from (g.O.Observe.seen l.seen l.node) l.into.items.items (map (nearest l.top) (drop l.place l.numbers))
      ≡ held_ones (g.O.Observe.seen l.seen l.node) (map (nearest l.top) l.numbers);
  marked : AreMarked l.top l.marks l.into.items.items;
  few : length l.into.items.items ≤ l.place;
}
