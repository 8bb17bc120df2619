use Rattle.std.proofs.Common.{◌≡◌, ◌∙◌, refl, sym, ap, ◌<◌, ◌++◌, length, Some, slice_get, append-nil, arith}
use Rattle.replay_world.proofs.Names.{counts_of, node_text, slice_get_read}
use Rattle.replay_world.proofs.SummaryLemmas.{all_nodes, lines_next, node_there}
use Rattle.replay_world.proofs.RefusalLemmas.{node_at, nodes_count}
use Rattle.replay_world.proofs.replay.Replay.report_nodes.Goals as goal

pub loop-index-init : goal.loop-index-init
loop-index-init c = λ v stands. sym (append-nil c.args.out.now)

pub loop-index-preserved : goal.loop-index-preserved
loop-index-preserved c = λ v stands.
    let k = c.loop-index.index in
    let within : k < length c.args.self.now.nodes.items =
    omega (arith, c.len-index-end.ensures, c.args.self.now.nodes.ok.0) in
    let has : slice_get c.args.self.now.nodes.items k ≡ Some c.index.result.now =
    slice_get_read c.args.self.now.nodes.items (length c.args.self.now.nodes.items) k c.index.result.now refl within
    c.index.ensures in
    let here = node_at v _ stands k has in
    lines_next _ k _ (c.loop-index.invariant v stands)
    (c.in_ok-print_node.ensures ∙ ap (λ n. c.loop-index.out ++ node_text k n) (c.counts.ensures ∙ ap counts_of here.is)
    ∙ ap (λ text. c.loop-index.out ++ text) (node_there v k here.has_log))

pub returns : goal.returns
returns c = λ v stands.
    let whole : c.loop-index.index ≡ length v.world.nodes =
    omega (arith, c.len-index-end.ensures, c.args.self.now.nodes.ok.0, nodes_count v _ stands) in
    cc (c.loop-index.invariant v stands, all_nodes v)
