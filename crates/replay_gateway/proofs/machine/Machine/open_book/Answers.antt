use Rattle.std.proofs.Common.{◌≡◌, refl, Some}
use Rattle.replay_gateway.proofs.Names.{Down, on_ok_weaker}
use Rattle.replay_gateway.proofs.machine.Machine.open_book.Goals as goal

pub returns : goal.returns
returns c = λ setup place g m stands down.
    let at : c.args.self.now.site ≡ Some (Down c.in-Some-Down.fallen) =
    cc (c.in-Some-Down.ensures.value, c.in-Some-Down.field-0-is) in
    let there = rw at at stands.site in
    on_ok_weaker c.reopened-site.result.1 (λ site. record { site = site; rest = refl })
    (c.reopened-site.ensures setup place g m there stands.named)
