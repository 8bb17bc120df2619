use Rattle.std.proofs.Common.{rules, ap, ◌∙◌, ◌∷◌, Some}
use Rattle.atomic_table.specs.Table.{rest}
use Rattle.turn_cell.proofs.Calls.{comes_again, has_slot, placed_is, took_is}
use Rattle.turn_cell.proofs.cell.TurnCell.turn_at.Goals as goal

pub exchange-requires : goal.exchange-requires
exchange-requires g c = (search rules, (Some c.requires.comes.0, has_slot _ _ (ap (λ m. m.1) c.requires.comes.1)))

pub returns-clause-took : goal.returns-clause-took
returns-clause-took g c =
    let slot = c.exchange.ensures.2 ∙ (λ i. (0, c.in-Some.is i) ∷ rest c.args.place.now.me.1) in
    took_is _ _ _ _ _ _ _ _ _ c.args.place.now.me c.exchange.new.seat.me c.perform.new.place.me c.requires.comes slot (ap (λ m. m.0) c.exchange.ensures.3) c.perform.ensures.took

pub returns-clause-placed : goal.returns-clause-placed
returns-clause-placed g c =
    let slot = c.exchange.ensures.2 ∙ (λ i. (0, c.in-Some.is i) ∷ rest c.args.place.now.me.1) in
    placed_is _ _ _ _ _ _ _ _ _ c.args.place.now.me c.exchange.new.seat.me c.perform.new.place.me c.requires.comes slot (ap (λ m. m.0) c.exchange.ensures.3) c.perform.ensures.took

pub returns-clause-comes : goal.returns-clause-comes
returns-clause-comes g c =
    let slot = c.exchange.ensures.2 ∙ (λ i. (0, c.in-Some.is i) ∷ rest c.args.place.now.me.1) in
    comes_again _ _ _ _ _ _ _ _ _ c.args.place.now.me c.exchange.new.seat.me c.perform.new.place.me c.requires.comes slot (ap (λ m. m.0) c.exchange.ensures.3) c.requires.session c.perform.ensures.took
