use Rattle.std.proofs.Common.{◌+◌, ◌-◌, ◌/◌, ◌%◌, [], ◌∷◌, ◌++◌, ap, ◌∙◌, append_assoc}
use Rattle.replay_gateway.specs.GatewayReport.{digits}
use Rattle.replay_gateway.proofs.ReportLemmas.{last_digit}
use Rattle.replay_gateway.proofs.gateway_report.+print_digits.Goals as goal

pub returns : goal.returns
returns t c =
    c.in_ok-append.ensures.ok ∙ ap (λ front. front ++ (48 + c.args.number % 10) ∷ []) c.in_ok-print_digits.ensures
    ∙ append_assoc c.args.out.now (digits (c.args.count - 1) (c.args.number / 10)) ((48 + c.args.number % 10) ∷ [])
    ∙ ap (λ text. c.args.out.now ++ text) (last_digit c.args.number c.if-count-eq0.false)
