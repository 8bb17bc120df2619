use Rattle.std.proofs.lemmas.Result.{on_ok_weaker}
use Rattle.replay_gateway.proofs.ReportLemmas.{reported}
use Rattle.replay_gateway.proofs.machine.Machine.report.Goals as goal

pub returns : goal.returns
returns c = λ setup g m stands.
    let tallied = c.in_ok-tally.ensures setup c.args.place g m stands in
    on_ok_weaker c.print_counts.result (λ printed. (
      tallied.1,
      reported setup c.args.place g m c.in_ok-tally.tally c.args.out.now tallied.0
          (c.in_ok-report_files.ensures setup g m stands) (cc (printed, c.from.ensures)),
    ))
    c.print_counts.ensures
