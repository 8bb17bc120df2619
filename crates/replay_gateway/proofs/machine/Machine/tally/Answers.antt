use Rattle.std.proofs.Common.{◌∙◌, sym}
use Rattle.replay_gateway.proofs.ReportLemmas.{tallied_up}
use Rattle.replay_gateway.proofs.CallLemmas.{site_set}
use Rattle.replay_gateway.proofs.machine.Machine.tally.Goals as goal

pub returns-then-is_down : goal.returns-then-is_down
returns-then-is_down c = λ setup place g m stands.
    c.tally_down.ensures setup place g m stands (sym (c.is_down.ensures setup place g m stands) ∙ c.if-is_down.true)

pub returns : goal.returns
returns c = λ setup place g m stands.
    let runs = sym (c.is_down.ensures setup place g m stands) ∙ c.if-is_down.false in
    let told = c.in_ok-told.ensures.told setup place g m stands.site runs in (
      c.gateway_counts.ensures ∙ tallied_up setup place g m runs told.0,
      site_set stands told.1 c.in_ok-told.ensures.rest,
    )
