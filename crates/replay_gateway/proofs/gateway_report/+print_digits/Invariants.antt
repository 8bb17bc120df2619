use Rattle.replay_gateway.proofs.gateway_report.+print_digits.Given as goal

abbrev pub decreases-print_digits : goal.decreases-print_digits
decreases-print_digits l = l.count
