use Rattle.std.proofs.Common.{rules, ap, ◌∙◌, ◌∷◌, ◌++◌}
use Rattle.turn_cell.proofs.Calls.{is_in, joins_at, one_behind}
use Rattle.turn_cell.proofs.Names.{both, known_by}
use Rattle.turn_cell.proofs.ending.gather.Goals as goal

pub join_seat-requires : goal.join_seat-requires
join_seat-requires g c =
    let inv = c.loop-pass.invariant in
    let behind = inv.1.0 in
    let pass = is_in _ _ _ _ behind _ c.requires.passes inv.1.1 c.in-Some.ensures.items in (
      inv.0 ∙ c.requires.own,
      c.into_place.ensures.own ∙ pass,
      ap (λ m. m.1) c.into_place.ensures.rests,
      search rules,
      joins_at _ _ _ _ _ (known_by behind ++ c.args.place.now.me.0.passes) _ _ _ _ (ap (λ m. m.0) inv.1.2) (ap (λ m. m.0) c.into_place.ensures.rests),
    )

pub loop-pass-preserved : goal.loop-pass-preserved
loop-pass-preserved g c =
    let inv = c.loop-pass.invariant in
    let behind = inv.1.0 in (
      c.join_seat.ensures.0 ∙ inv.0,
      (
        c.in-Some.pass ∷ behind,
        one_behind _ _ _ behind _ inv.1.1 c.in-Some.ensures.items,
        c.join_seat.ensures.2 ∙ (λ i. (both (inv.1.2 i).0 (c.into_place.ensures.rests i).0, (inv.1.2 i).1)),
      ),
    )
