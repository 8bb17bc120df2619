use Rattle.std.proofs.Common.{[], ◌∷◌}
use Rattle.replay_world.proofs.Names.{after_steps, delivers, IfOk-weaker}
use Rattle.replay_world.proofs.DeliverLemmas.{may_come_again}
use Rattle.replay_world.proofs.StepsLemmas.{does_ended, does_one, does_then}
use Rattle.replay_world.proofs.replay.Replay.deliver_twice.Goals as goal

pub returns-then-not-goes_on : goal.returns-then-not-goes_on
returns-then-not-goes_on c = λ v stands none.
    does_ended v _ (rw c.if-not-goes_on.true at (does_one (c.in_ok-goes_on.ensures v stands none)))

pub returns : goal.returns
returns c = λ v stands none.
    let first = rw c.if-not-goes_on.false at (does_one (c.in_ok-goes_on.ensures v stands none)) in
    let u = after_steps v (delivers c.args.number ∷ []) in
    IfOk-weaker _ _ _ (λ on done. does_then v _ _ _ _ _ _ on first (does_one done))
    (c.deliver-2.ensures u first.makes.stands (may_come_again v (delivers c.args.number ∷ []) _ none))
