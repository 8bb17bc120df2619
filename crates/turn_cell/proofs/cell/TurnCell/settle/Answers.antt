use Rattle.std.proofs.Common.{rules, ap, ◌∙◌, ◌∷◌, Some}
use Rattle.turn_cell.proofs.Names.{none, rest, step}
use Rattle.turn_cell.proofs.Calls.{settled_is, settles_at}
use Rattle.turn_cell.proofs.cell.TurnCell.settle.Goals as goal

pub store-requires : goal.store-requires
store-requires g c =
    let me = c.exchange.ensures.3 ∙ ap (λ m. (m.0, (0, Some c.args.left) ∷ rest m.1)) c.requires.holds in
    (search rules, search rules, settles_at _ _ _ _ _ _ _ _ _ _ _ _ _ _ _ _ _ me c.requires.length c.requires.sound c.requires.owes c.requires.did (c.requires.session c.requires.did.turn_is c.requires.did.turn_named))

pub returns-clause-settles : goal.returns-clause-settles
returns-clause-settles g c =
    let me = c.exchange.ensures.3 ∙ ap (λ m. (m.0, (0, Some c.args.left) ∷ rest m.1)) c.requires.holds in
    settled_is _ _ _ _ _ _ _ (step 0 0 0 0 none) _ _ _ _ c.args.length _ _ me c.store.ensures.2
