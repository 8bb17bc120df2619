use Rattle.std.proofs.Common.{[], ◌∷◌}
use Rattle.once_core.specs.declared.event.Event.TheVariants as event
use Rattle.replay_world.proofs.Names.{after_steps, Plays}
use Rattle.replay_world.proofs.SettleLemmas.{close_calm, commit_calm, settles_one, settles_then}
use Rattle.replay_world.proofs.replay.Replay.commit_and_close.Goals as goal

pub returns : goal.returns
returns c = λ v number stands unarmed is none.
    let calm = commit_calm _ stands unarmed none in
    let first = settles_one _ _ (c.in_ok-at_gateway.ensures v number stands is none) calm.0 calm.1 calm.2 in
    let u = after_steps v (Plays (event.Commit number) ∷ []) in
    let calm_then = close_calm u _ first.does.makes.stands first.stays.unarmed first.runs in
    let second = settles_one _ _ (c.in_ok-at_gateway-2.ensures u number first.does.makes.stands is first.runs)
    calm_then.0 calm_then.1 calm_then.2 in
    settles_then first second
