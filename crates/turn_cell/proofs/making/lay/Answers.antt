use Rattle.std.proofs.Common.{ap, ◌∙◌, ◌++◌, ◌∷◌, [], Some}
use Rattle.turn_cell.proofs.Ends.{begins_well_at}
use Rattle.turn_cell.proofs.making.lay.Goals as goal

pub new-requires : goal.new-requires
new-requires g c =
    begins_well_at g.V.Counted.told c.args.passes g.V.Counted.facts c.args.value c.of.result.value c.length.result _ c.of.ensures
    (c.push_reserved.ensures.items ∙ ap (λ l. l ++ Some c.args.value ∷ []) c.in-Ok.ensures.items) c.length.ensures.length c.length.ensures.sound
