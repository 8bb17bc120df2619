use Rattle.std.proofs.Common.{◌≡◌, ◌∙◌, sym}
use Rattle.replay_gateway.proofs.Names.{Nothing, unarmed}
use Rattle.replay_gateway.proofs.OpeningLemmas.{down_tells}
use Rattle.replay_gateway.proofs.machine.Machine.disarm.Goals as goal

pub returns-then-is_down : goal.returns-then-is_down
returns-then-is_down c = λ setup place g m stands.
    let down = sym (c.is_down.ensures setup place g m stands) ∙ c.if-is_down.true in
    let tells = (down_tells _ _ g m _ down stands.site).0 in
    let same : m ≡ unarmed m =
    λ i. record {
      armed = tells.0 i;
      at_last = m.at_last;
      filing = record { armed = tells.1 i; taken = m.filing.taken; sealed = m.filing.sealed };
    } in
    rw same at stands

pub returns : goal.returns
returns c = λ setup place g m stands.
    let runs = sym (c.is_down.ensures setup place g m stands) ∙ c.if-is_down.false in
    c.arm_shelf.ensures setup place g (record m { armed = Nothing }) Nothing
    (record { reads = c.calm-2.ensures.read_fail; call = (c.calm-2.ensures.fail, c.calm-2.ensures.stop) })
    runs (c.arm.ensures setup place g m Nothing
    (record { reads = c.calm.ensures.read_fail; call = (c.calm.ensures.fail, c.calm.ensures.stop) }) runs stands)
