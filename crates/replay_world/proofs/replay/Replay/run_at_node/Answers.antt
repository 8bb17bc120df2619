use Rattle.std.proofs.Common.{◌∙◌, refl, sym}
use Rattle.replay_world.specs.Does.{is_at_node}
use Rattle.replay_world.proofs.RunLemmas.{line_does, node_place, printed_none, start_place, such_line}
use Rattle.replay_world.proofs.replay.Replay.run_at_node.Goals as goal

pub returns-in-Halt : goal.returns-in-Halt
returns-in-Halt c = λ v stands none.
    let number = c.in-Halt.node in
    such_line v is_at_node _ _ _ _ c.in-Halt.is refl none (λ allowed.
    let is = node_place v _ stands allowed ∙ sym c.place-in-Halt.ensures in
    printed_none _ (line_does _ allowed refl refl (c.halt.ensures v number stands is allowed)))

pub returns-in-Start : goal.returns-in-Start
returns-in-Start c = λ v stands none.
    let number = c.in-Start.node in
    such_line v is_at_node _ _ _ _ c.in-Start.is refl none (λ allowed.
    let is = start_place v _ stands allowed ∙ sym c.place-in-Start.ensures in
    printed_none _ (line_does _ allowed refl refl (c.start.ensures v number stands is allowed)))

pub returns-in_ok-deliver-in-Deliver : goal.returns-in_ok-deliver-in-Deliver
returns-in_ok-deliver-in-Deliver c = λ v stands none.
    such_line v is_at_node _ _ _ _ c.in-Deliver.is refl none
    (λ allowed. line_does _ allowed refl refl (c.in_ok-deliver-in-Deliver.ensures v stands allowed).does)
