use Rattle.std.proofs.Common.{◌≡◌, sym, ◌∙◌, subst, Some}
use Rattle.turn_cell.proofs.Names.{Ended, some-injective}
use Rattle.turn_cell.proofs.Ends.{ends_at}
use Rattle.turn_cell.proofs.ending.close.Goals as goal

pub unreachable-requires : goal.unreachable-requires
unreachable-requires g c =
    let e = ends_at g.V.Counted.told c.args.table.shared.key.passes g.V.Counted.facts _ _ _ _ c.args.place.me c.requires.rests c.requires.all c.close_with-closed.ensures.values.2 in
    c.in_default.not-Some e.1.0 (some-injective _ _ (sym c.take.ensures.value ∙ e.1.1))

pub returns-clause-ended : goal.returns-clause-ended
returns-clause-ended g c =
    let start = g.V.Counted.facts c.args.table.shared.key.value.value in
    let e = ends_at g.V.Counted.told c.args.table.shared.key.passes g.V.Counted.facts start _ _ _ c.args.place.me c.requires.rests c.requires.all c.close_with-closed.ensures.values.2 in
    let is : Some c.in-Some.value ≡ Some e.1.0 = sym c.in-Some.is ∙ some-injective _ _ (sym c.take.ensures.value ∙ e.1.1) in
    let same : c.in-Some.value ≡ e.1.0 = cc is in
    subst (λ x. Ended g.V.Counted.told start (g.V.Counted.facts x) c.args.place.me.0.passes) (sym same) e.1.2

pub returns-clause-count : goal.returns-clause-count
returns-clause-count g c =
    (ends_at g.V.Counted.told c.args.table.shared.key.passes g.V.Counted.facts _ _ _ _ c.args.place.me c.requires.rests c.requires.all c.close_with-closed.ensures.values.2).0
