use Rattle.std.proofs.Common.{refl, ◌-◌, sym, subst}
use Rattle.replay_world.proofs.Names.{after_step, Makes, on_ok_weaker, steps_behind, Writes}
use Rattle.replay_world.proofs.NodeSubmitLemmas.{does_behind, one_step}
use Rattle.replay_world.proofs.StepsLemmas.{makes_then}
use Rattle.replay_world.proofs.replay.Replay.write_line.Goals as goal

pub returns : goal.returns
returns c = λ v number stands is none.
    let did = c.in_ok-wrote.ensures.writes v number stands is none in
    on_ok_weaker c.end_write.result (λ makes.
    subst (λ steps. Makes v steps c.args.out.now c.end_write.new.out c.end_write.new.self)
    (sym (c.in_ok-wrote.ensures.came v number stands is none))
    (makes_then v _ (steps_behind number c.in_ok-wrote.wrote) _ _ _ (one_step refl (does_behind c.args.out.now did))
    makes)) (c.end_write.ensures (after_step v (Writes (number - 1))) number did.stands is none)
