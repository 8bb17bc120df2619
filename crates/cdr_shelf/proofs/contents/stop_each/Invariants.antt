use Rattle.std.proofs.Common.{◌≡◌, ◌++◌, take, drop, map}
use Rattle.cdr_shelf.specs.Steps.{left_by}
use Rattle.cdr_shelf.proofs.contents.stop_each.Given as goal

-- the places so far have what the stop leaves, and the others are as they were
abbrev pub invariant-places : goal.invariant-places
invariant-places l =
    l.places ≡ map (left_by l.outcome) (take l.place-index l.initial.places) ++ drop l.place-index l.initial.places
