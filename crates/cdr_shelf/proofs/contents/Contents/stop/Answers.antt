use Rattle.std.proofs.Common.{List, sum_by, ap, arith}
use Rattle.cdr_shelf.specs.Files.{Unsealed}
use Rattle.cdr_shelf.specs.Holding.{is_there}
use Rattle.cdr_shelf.proofs.Places.{there-left_by}
use Rattle.cdr_shelf.proofs.contents.Contents.stop.Goals as goal

pub invariant_of-self : goal.invariant_of-self
invariant_of-self c =
    let left = there-left_by c.args.outcome c.self.inside.unsealed.items in
    let same = ap (λ (l : List Unsealed). sum_by is_there l) c.stop_all.ensures in
    omega (arith, left, same, c.self.invariant)
