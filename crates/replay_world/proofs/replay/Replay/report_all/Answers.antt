use Rattle.std.proofs.lemmas.Result.{on_ok_weaker}
use Rattle.replay_world.proofs.SummaryLemmas.{reports}
use Rattle.replay_world.proofs.replay.Replay.report_all.Goals as goal

pub returns : goal.returns
returns c = λ v stands.
    let first = c.in_ok-report_gateways.ensures v stands in
    on_ok_weaker c.report_nodes.result (λ later. (first.0, reports v c.args.out.now first.1 later))
    (c.report_nodes.ensures v first.0)
