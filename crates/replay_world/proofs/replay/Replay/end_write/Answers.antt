use Rattle.std.proofs.Common.{◌∙◌, refl, sym, ap, ◌++◌, ◌-◌, append-nil, subst}
use Rattle.replay_world.proofs.Names.{after_step, Makes, notice_line, on_ok_weaker, ShelfFaulted, steps_behind, Tells}
use Rattle.replay_world.specs.Notices.{Stopped}
use Rattle.replay_world.proofs.NodeSubmitLemmas.{does_behind, does_tell, one_step}
use Rattle.replay_world.proofs.StepsLemmas.{makes_one, makes_then}
use Rattle.replay_world.proofs.replay.Replay.end_write.Goals as goal

pub returns-in-All : goal.returns-in-All
returns-in-All c = λ v number stands is none.
    rw c.in-All.is (record { stands = stands; prints = sym (append-nil c.args.out.now) })

pub returns-in-Failed : goal.returns-in-Failed
returns-in-Failed c = λ v number stands is none.
    on_ok_weaker c.print_shelf_fault.result (λ prints.
    subst (λ w. Makes v (steps_behind number w) c.args.out.now c.print_shelf_fault.new.out c.args.self.now)
    (sym c.in-Failed.is)
    (makes_one (does_tell (ShelfFaulted (number - 1)) c.args.out.now stands
    (prints ∙ ap (λ k. c.args.out.now ++ notice_line (ShelfFaulted k)) (sym is))))) c.print_shelf_fault.ensures

pub returns-in_ok-print_stopped-in-Stopped : goal.returns-in_ok-print_stopped-in-Stopped
returns-in_ok-print_stopped-in-Stopped c = λ v number stands is none.
    let told = does_tell _ _ stands
    (c.in_ok-print_stopped-in-Stopped.ensures ∙ ap (λ k. c.args.out.now ++ notice_line (Stopped k)) (sym is)) in
    let u = after_step v (Tells (Stopped (number - 1))) in
    rw c.in-Stopped.is
    (makes_then v _ _ _ _ _ (one_step refl told)
    (makes_one (does_behind c.print_stopped.new.out (c.stop.ensures u number told.stands is none))))
