use Rattle.std.proofs.Common.{◌∙◌, refl}
use Rattle.replay_world.proofs.DeliverLemmas.{passed_stands, removed}
use Rattle.replay_world.proofs.replay.Replay.pass.Goals as goal

pub returns : goal.returns
returns c = λ v stands.
    passed_stands v _ _ stands refl (c.shift_remove.ensures.keys ∙ removed _ c.args.number c.len-count.ensures.unique)
