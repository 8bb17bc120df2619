use Rattle.std.proofs.Common.{◌≡◌, ◌∙◌, ◌*◌, refl, ap, length, take, take_all, Some, slice_get, arith}
use Rattle.std.proofs.lemmas.List.FromFn.{length-enumerate_from}
use Rattle.replay_world.proofs.Names.{counts_of, enumerate_from, slice_get_read}
use Rattle.replay_world.proofs.RefusalLemmas.{node_at, nodes_count}
use Rattle.replay_world.proofs.SummaryLemmas.{nodes_few, nodes_more, nodes_next}
use Rattle.replay_world.proofs.replay.Replay.sum_nodes.Goals as goal

pub loop-index-init : goal.loop-index-init
loop-index-init c = record {
  few = record { packets = omega arith; resolved = omega arith; done = omega arith };
  done = λ v stands. refl;
}

pub with_counts-sums-requires : goal.with_counts-sums-requires
with_counts-sums-requires c = nodes_more _ (omega (arith, c.len-index-end.ensures)) c.loop-index.invariant.few

pub loop-index-preserved : goal.loop-index-preserved
loop-index-preserved c = record {
  few = nodes_few _
      (c.with_counts-sums.ensures.few (c.loop-index.index * 18446744073709551615) c.loop-index.invariant.few);
  done = λ v stands.
      let k = c.loop-index.index in
      let has : slice_get c.args.self.now.nodes.items k ≡ Some c.index.result.now =
      slice_get_read c.args.self.now.nodes.items (length c.args.self.now.nodes.items) k c.index.result.now refl
      (omega (arith, c.len-index-end.ensures, c.args.self.now.nodes.ok.0)) c.index.ensures in
      let here = node_at v _ stands k has in
      nodes_next (length v.world.gateways) v.world.nodes k _ _ _ _ here.has_log (c.counts.ensures ∙ ap counts_of here.is)
      (c.loop-index.invariant.done v stands) c.with_counts-sums.ensures.sums;
}

pub returns : goal.returns
returns c = λ v stands.
    let all = enumerate_from 0 v.world.nodes in
    let whole : take c.loop-index.index all ≡ all =
    take_all c.loop-index.index all (omega (
      arith,
      c.len-index-end.ensures,
      c.args.self.now.nodes.ok.0,
      nodes_count v _ stands,
      length-enumerate_from 0 v.world.nodes,
    )) in
    cc (c.loop-index.invariant.done v stands)
