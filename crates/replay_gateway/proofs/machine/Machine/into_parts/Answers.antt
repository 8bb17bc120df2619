use Rattle.replay_gateway.proofs.OpeningLemmas.{handed_out}
use Rattle.replay_gateway.proofs.machine.Machine.into_parts.Goals as goal

pub returns : goal.returns
returns c = λ setup place g m stands.
    handed_out _ _ g m _ _ (c.area_of.ensures setup place g m stands.site)
    (rw (← c.into_shelf.ensures) at stands.writes.writes.holds.files)
    (λ n on. rw c.into_shelf.ensures (stands.writes.writes.on n on).unsealed)
