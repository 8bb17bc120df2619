use Rattle.std.proofs.Common.{refl}
use Rattle.std.proofs.lemmas.Result.{on_ok_weaker}
use Rattle.replay_world.proofs.MomentLemmas.{does_moment}
use Rattle.replay_world.proofs.RunLemmas.{line_as, line_does, line_makes, line_same, printed_none, refusal_same}
use Rattle.replay_world.proofs.replay.Replay.run_of_all.Goals as goal

pub returns-in-Flow : goal.returns-in-Flow
returns-in-Flow c = λ v stands none at_node at_gateway on_device.
    line_as v _ _ _ _ c.in-Flow.is (on_ok_weaker _ (λ makes. line_makes _ refl refl makes) (c.flow.ensures v stands))

pub returns-in-Mix : goal.returns-in-Mix
returns-in-Mix c = λ v stands none at_node at_gateway on_device.
    line_as v _ _ _ _ c.in-Mix.is (on_ok_weaker _ (λ makes. line_makes _ refl refl makes) (c.mix.ensures v stands))

pub returns-in-Settle : goal.returns-in-Settle
returns-in-Settle c = λ v stands none at_node at_gateway on_device.
    line_as v _ _ _ _ c.in-Settle.is (on_ok_weaker _ (λ makes. line_makes _ refl refl makes)
    (c.settle_all.ensures v stands))

pub returns-in-At : goal.returns-in-At
returns-in-At c = λ v stands none at_node at_gateway on_device.
    let allowed = refusal_same v c.in-At.is none in
    line_same v _ c.in-At.is
    (printed_none c.args.out.now (line_does _ allowed refl refl (does_moment v _ _ allowed stands refl)))
