use Rattle.std.proofs.Common.{Some, arith, length-set}
use Rattle.std.proofs.Math.ListN.{set}
use Rattle.cdr_shelf.proofs.Places.{there-le-length}
use Rattle.cdr_shelf.proofs.contents.Contents.begin.Goals as goal

pub invariant_of-self-2 : goal.invariant_of-self-2
invariant_of-self-2 c =
    let places = c.grow.new.places.items in
    let begun = set places c.args.name.stream (Some c.new.result) in
    let as_many = length-set places c.args.name.stream (Some c.new.result) in
    omega (arith, there-le-length begun, as_many, c.in_ok-reserve.ensures.ok, c.len.ensures)
