use Rattle.std.proofs.Common.{◌∙◌, ap, ◌++◌}
use Rattle.replay_gateway.specs.GatewayReport.{digits}
use Rattle.replay_gateway.proofs.ReportLemmas.{four_more}
use Rattle.replay_gateway.proofs.gateway_report.print_name.Goals as goal

pub returns : goal.returns
returns c =
    four_more _ _ _ _ _ (c.in_ok-print_digits.ensures ∙ ap (λ n. c.args.out.now ++ digits 2 n) c.from.ensures)
    c.in_ok-append.ensures.ok c.in_ok-print_digits-2.ensures c.in_ok-append-2.ensures.ok
