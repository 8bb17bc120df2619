use Rattle.std.proofs.Common.{◌≡◌, ◌∙◌, sym, ap, ◌+◌, arith}
use Rattle.replay_world.proofs.Names.{is_down_in, on_ok_weaker}
use Rattle.replay_world.proofs.SettleLemmas.{gateway_there, may_open, settles_opened, settles_running}
use Rattle.replay_world.proofs.replay.Replay.open_if_down.Goals as goal

pub returns-then-not-is_down : goal.returns-then-not-is_down
returns-then-not-is_down c = λ v number stands unarmed is none.
    let here : c.from.result + 1 ≡ number = omega (arith, c.from.ensures, (gateway_there v _ none).0) in
    settles_running v _ stands unarmed none (cc (c.is_down.ensures v stands, c.if-not-is_down.true))

pub returns : goal.returns
returns c = λ v number stands unarmed is none.
    let here : c.from.result + 1 ≡ number = omega (arith, c.from.ensures, (gateway_there v _ none).0) in
    let down = sym (ap (is_down_in v.world) here) ∙ sym (c.is_down.ensures v stands) ∙ c.if-not-is_down.false in
    on_ok_weaker _ (λ done. settles_opened v stands unarmed none down done)
    (c.open.ensures v number stands is (may_open v _ none down))
