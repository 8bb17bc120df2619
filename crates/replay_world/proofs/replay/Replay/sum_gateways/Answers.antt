use Rattle.std.proofs.Common.{◌≡◌, ◌∙◌, ◌*◌, refl, take, take_all, arith}
use Rattle.replay_world.proofs.GatewayEventLemmas.{machines_count}
use Rattle.replay_world.proofs.SummaryLemmas.{gateways_few, gateways_more, sums_next}
use Rattle.replay_world.proofs.replay.Replay.sum_gateways.Goals as goal

pub loop-index-init : goal.loop-index-init
loop-index-init c = record {
  count = refl;
  few = record { records = omega arith; held = omega arith; stranded = omega arith };
  done = λ v stands. (stands, refl);
}

pub with_tally-sums-requires : goal.with_tally-sums-requires
with_tally-sums-requires c = gateways_more _ (omega (arith, c.len-index-end.ensures)) c.loop-index.invariant.few

pub loop-index-preserved : goal.loop-index-preserved
loop-index-preserved c = record {
  count = c.in_ok-tally.ensures.count ∙ c.loop-index.invariant.count;
  few = gateways_few _
      (c.with_tally-sums.ensures.few (c.loop-index.index * 18446744073709551615) c.loop-index.invariant.few);
  done = λ v stands.
      let so_far = c.loop-index.invariant.done v stands in
      let more = c.in_ok-tally.ensures.tallies v so_far.0 in
      (more.0, sums_next v.world.gateways c.loop-index.index c.in_ok-tally.tally _ _ more.1 so_far.1 c.with_tally-sums.ensures.sums);
}

pub returns : goal.returns
returns c = λ v stands.
    let so_far = c.loop-index.invariant.done v stands in
    let whole : take c.loop-index.index v.world.gateways ≡ v.world.gateways =
    take_all c.loop-index.index v.world.gateways
    (omega (arith, c.len-index-end.ensures, c.args.self.now.gateways.ok.0, machines_count v _ stands)) in
    (so_far.0, cc so_far.1)
