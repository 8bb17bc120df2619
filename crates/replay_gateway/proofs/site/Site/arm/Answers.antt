use Rattle.std.proofs.Common.{◌∙◌, refl}
use Rattle.replay_gateway.proofs.OpeningLemmas.{up_as_armed, arms_armed}
use Rattle.replay_gateway.proofs.site.Site.arm.Goals as goal

pub returns-in-Up : goal.returns-in-Up
returns-in-Up c = λ setup place g m armed arms runs stands.
    let up = rw c.in-Up.is at stands in
    record {
      runs = runs;
      up = up_as_armed armed c.args.plan (λ s running. arms_armed armed c.args.plan s c.arms_nothing.ensures
          c.arms_fail.ensures c.arms_stop.ensures running arms) up.up (c.arm.ensures.value (refl, refl))
          c.arm.ensures.stays c.arm.ensures.plan c.arm.ensures.kept_area (c.arm.ensures.stop refl);
      size = c.arm.ensures.stays.size ∙ up.size;
      open_time = c.arm.ensures.stays.open_time ∙ up.open_time;
    }
