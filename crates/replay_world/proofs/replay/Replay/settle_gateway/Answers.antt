use Rattle.std.proofs.Common.{[], ◌∷◌}
use Rattle.replay_world.proofs.Names.{after_steps, on_ok_weaker, opening_steps, Plays}
use Rattle.once_core.specs.declared.event.Event.TheVariants as event
use Rattle.replay_world.proofs.SettleLemmas.{settles_behind, settles_then}
use Rattle.replay_world.proofs.replay.Replay.settle_gateway.Goals as goal

pub returns : goal.returns
returns c = λ v number stands unarmed is none.
    let first = settles_behind c.args.out.now (c.in_ok-open_if_down.ensures v number stands unarmed is none) in
    let u = after_steps v (opening_steps v number) in
    let second = c.in_ok-commit_and_close.ensures u number first.does.makes.stands first.stays.unarmed is first.runs in
    let closes = Plays (event.Commit number) ∷ Plays (event.Close number) ∷ [] in
    on_ok_weaker _ (λ third. settles_then first (settles_then second third))
    (c.commit_and_write.ensures (after_steps u closes) number second.does.makes.stands second.stays.unarmed is
    second.runs)
