use Rattle.std.proofs.Common.{◌≡◌, ◌-◌, ◌≤◌, ◌^◌, false}
use Rattle.node_session.proofs.Names.{area_of, is_broken, IsUnchanged, IsWriterOf, KeepsFiles, settings_in, shelf_of, taken_of, tells_lists, value_of, WhereTold}
use Rattle.node_session.proofs.settling.give_all.Given as goal

abbrev pub invariant-pieces : goal.invariant-pieces
invariant-pieces g l =
    IsUnchanged l.initial.book l.book
    × (g.A.Area.faults (area_of l.initial.book) ≤ g.A.Area.faults (area_of l.book))
    × (is_broken l.writer ≡ false)
    × (settings_in l.writer ≡ settings_in l.initial.writer)
    × IsWriterOf (tells_lists g.A.Area) (value_of l.initial.book).firm l.writer
    × (g.F.Shelf.faults (shelf_of l.writer) ≡ g.F.Shelf.faults (shelf_of l.initial.writer))
    × WhereTold (tells_lists g.A.Area) (KeepsFiles g.F.Shelf (value_of l.initial.book).firm l.initial.writer l.writer)

abbrev pub decreases-pieces : goal.decreases-pieces
decreases-pieces g l = 2 ^ 31 - taken_of l.writer
