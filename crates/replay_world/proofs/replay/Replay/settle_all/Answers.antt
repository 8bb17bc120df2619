use Rattle.std.proofs.lemmas.Result.{on_ok_weaker}
use Rattle.replay_world.proofs.SettleLemmas.{all_unarmed, settles_all}
use Rattle.replay_world.proofs.replay.Replay.settle_all.Goals as goal

pub returns : goal.returns
returns c = λ v stands.
    let disarmed = c.disarm_all.ensures v stands in
    on_ok_weaker _ (λ makes. settles_all v _ _ _ stands disarmed makes)
    (c.settle_each.ensures _ disarmed.makes.stands (all_unarmed v stands disarmed))
