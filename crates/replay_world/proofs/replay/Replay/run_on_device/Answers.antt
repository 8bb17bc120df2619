use Rattle.std.proofs.Common.{◌∙◌, refl, sym, ◌-◌, ◌<◌, [], rules}
use Rattle.replay_world.proofs.Names.{is_on_device, outcome_in, Stop}
use Rattle.replay_world.proofs.RunLemmas.{arms_stop, gateway_place, line_does, such_line}
use Rattle.replay_world.proofs.replay.Replay.run_on_device.Goals as goal

pub returns-in-Stop : goal.returns-in-Stop
returns-in-Stop c = λ v stands none.
    let number = c.in-Stop.gateway in
    such_line v is_on_device [] [] _ _ c.in-Stop.is refl none (λ allowed.
    let is = gateway_place _ stands allowed ∙ sym c.place.ensures in
    line_does _ allowed refl refl (c.stop.ensures v number stands is allowed))

pub returns-in-Arm : goal.returns-in-Arm
returns-in-Arm c = λ v stands none.
    let number = c.in-Arm.gateway in
    let call = c.in-Arm.call in
    let mode = c.in-Arm.mode in
    let few : call - 1 < 18446744073709551615 = search rules in
    let armed = Stop (call - 1) (outcome_in mode) in
    such_line v is_on_device [] [] _ _ c.in-Arm.is refl none (λ allowed.
    let is = gateway_place _ stands allowed ∙ sym c.place-in-Arm.ensures in
    line_does _ allowed refl refl
    (c.arm.ensures v number armed
    (arms_stop _ _ few c.from_one.ensures c.outcome_of.ensures c.stopping-plan.ensures.read_fail
    c.stopping-plan.ensures.fail c.stopping-plan.ensures.stop) stands is allowed))

pub returns-in-ArmShelf : goal.returns-in-ArmShelf
returns-in-ArmShelf c = λ v stands none.
    let number = c.in-ArmShelf.gateway in
    let call = c.in-ArmShelf.call in
    let mode = c.in-ArmShelf.mode in
    let few : call - 1 < 18446744073709551615 = search rules in
    let armed = Stop (call - 1) (outcome_in mode) in
    such_line v is_on_device [] [] _ _ c.in-ArmShelf.is refl none (λ allowed.
    let is = gateway_place _ stands allowed ∙ sym c.place-in-ArmShelf.ensures in
    line_does _ allowed refl refl
    (c.arm_shelf.ensures v number armed
    (arms_stop _ _ few c.from_one-in-ArmShelf.ensures c.outcome_of-in-ArmShelf.ensures
    c.stopping-plan-in-ArmShelf.ensures.read_fail c.stopping-plan-in-ArmShelf.ensures.fail
    c.stopping-plan-in-ArmShelf.ensures.stop) stands is allowed))
