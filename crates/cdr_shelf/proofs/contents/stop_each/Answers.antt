use Rattle.std.proofs.Common.{arith}
use Rattle.std.proofs.lemmas.List.{get_or_default}
use Rattle.std.proofs.lemmas.List.Edits.{map_over_more}
use Rattle.cdr_shelf.specs.Steps.{left_by}
use Rattle.cdr_shelf.proofs.contents.stop_each.Goals as goal

pub places-preserved : goal.places-preserved
places-preserved c =
    let places = c.places.places in
    let at = c.places.place-index in
    let here = get_or_default places at _ _ (omega arith) in
    rw c.stop_slot.ensures
    (map_over_more (left_by c.args.outcome) c.args.places.now places at _ c.places-test.true c.places.invariant here)
