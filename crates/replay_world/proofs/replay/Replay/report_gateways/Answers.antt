use Rattle.std.proofs.Common.{◌≡◌, ◌∙◌, refl, sym, length, append-nil, arith}
use Rattle.replay_world.specs.Report.{gateway_lines}
use Rattle.replay_world.proofs.SummaryLemmas.{lines_next}
use Rattle.replay_world.proofs.GatewayEventLemmas.{machines_count}
use Rattle.replay_world.proofs.replay.Replay.report_gateways.Goals as goal

pub loop-index-init : goal.loop-index-init
loop-index-init c = record { count = refl; done = λ v stands. (stands, sym (append-nil c.args.out.now)) }

pub loop-index-preserved : goal.loop-index-preserved
loop-index-preserved c = record {
  count = c.in_ok-report_gateway.ensures.count ∙ c.loop-index.invariant.count;
  done = λ v stands.
      let so_far = c.loop-index.invariant.done v stands in
      let more = c.in_ok-report_gateway.ensures.lines v so_far.0 in
      (more.0, lines_next (gateway_lines v) c.loop-index.index c.args.out.now so_far.1 more.1);
}

pub returns : goal.returns
returns c = λ v stands.
    let so_far = c.loop-index.invariant.done v stands in
    let whole : c.loop-index.index ≡ length v.world.gateways =
    omega (arith, c.len-index-end.ensures, c.args.self.now.gateways.ok.0, machines_count v _ stands) in
    (so_far.0, cc so_far.1)
