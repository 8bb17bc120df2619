use Rattle.std.proofs.Common.{refl, true, [], ◌∷◌, ◌-◌}
use Rattle.once_core.specs.declared.event.Event.TheVariants as event
use Rattle.replay_world.proofs.Names.{after_steps, Plays, Writes}
use Rattle.replay_world.proofs.SettleLemmas.{commit_calm, settles_behind, settles_one, settles_then, write_calm}
use Rattle.replay_world.proofs.replay.Replay.commit_and_write.Goals as goal

pub returns : goal.returns
returns c = λ v number stands unarmed is none.
    let calm = commit_calm _ stands unarmed none in
    let first = settles_one _ _ (c.in_ok-at_gateway.ensures v number stands is none) calm.0 calm.1 calm.2 in
    let u = after_steps v (Plays (event.Commit number) ∷ []) in
    let calm_then = write_calm u _ first.does.makes.stands first.stays.unarmed first.runs in
    let done = c.in_ok-write.ensures.writes u number first.does.makes.stands is first.runs in
    settles_then first
    (settles_behind c.at_gateway.new.out
    (settles_one {step = Writes (number - 1)} _ {before = []} {after = []} {r = c.write.new.self} true
    (record { does = done; goes = refl }) refl calm_then.0 calm_then.1))
