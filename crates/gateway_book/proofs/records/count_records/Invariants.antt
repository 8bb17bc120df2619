use Rattle.std.proofs.Common.{◌≡◌, ◌+◌, ◌-◌, ◌≤◌, ◌^◌, length, take}
use Rattle.gateway_book.proofs.Names.{IsUnchanged, items_of, part_count, Told, value_of}
use Rattle.gateway_book.specs.Book.{area_of}
use Rattle.gateway_book.proofs.records.count_records.Given as goal

-- the items up to a place were counted
abbrev pub invariant-pieces : goal.invariant-pieces
invariant-pieces g l = record {
  same : IsUnchanged l.initial.book l.book;
  still : g.A.Area.faults (area_of l.book) ≡ g.A.Area.faults (area_of l.initial.book);
  counted : Told g.A.Area → l.records ≡ part_count (take l.from (items_of (value_of l.initial.book).firm));
  within : Told g.A.Area → l.from ≤ length (items_of (value_of l.initial.book).firm);
  small : l.from ≤ 2 ^ 28 + 4096;
}

abbrev pub decreases-pieces : goal.decreases-pieces
decreases-pieces g l = 2 ^ 28 + 4097 - l.from
