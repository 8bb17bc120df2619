use Rattle.std.proofs.Common.{refl}
use Rattle.once_core.specs.Gateway.{opened}
use Rattle.replay_gateway.proofs.Names.{first_machine, rules_in}
use Rattle.replay_gateway.proofs.ReportLemmas.{opened_still, site_opened, tallied_down}
use Rattle.replay_gateway.proofs.machine.Machine.tally_down.Goals as goal

pub returns : goal.returns
returns c = λ setup place g m stands down.
    let is_opened = c.in_ok-open_book.ensures setup place g m stands down in
    let told = c.in_ok-told.ensures.told setup place (opened (rules_in setup) g) first_machine
    (site_opened _ _ g m _ is_opened.site) refl in (
      tallied_down setup place g m down told.0,
      c.close_book.ensures setup place g m c.args.self.now stands down
          (opened_still _ _ g m is_opened told.1 c.in_ok-told.ensures.rest),
    )
