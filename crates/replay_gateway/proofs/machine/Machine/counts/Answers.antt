use Rattle.std.proofs.Common.{◌∙◌, refl, ap, Some}
use Rattle.replay_gateway.proofs.machine.Machine.counts.Goals as goal

pub returns : goal.returns
returns c = λ setup place g m stands runs.
    let at = rw c.in-Some-Up.is at c.in-Some-Up.field-0-is in
    let up = rw (c.in-Some-Up.is ∙ ap Some at) at stands in
    cc (c.counts.ensures.told (refl, refl), up.up.value, up.size)
