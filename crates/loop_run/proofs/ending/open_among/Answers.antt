use Rattle.std.proofs.Common.{ap, sym, ◌∙◌, ◌+◌, ◌*◌, ◌^◌, List, take, arith}
use Rattle.loop_run.proofs.Names.{NodeValue, open_of, open_packets, PacketId, take_all}
use Rattle.loop_run.proofs.OpenLemmas.{nodes_more, up_to_more}
use Rattle.loop_run.proofs.ending.open_among.Goals as goal

pub with_node-found-requires : goal.with_node-found-requires
with_node-found-requires c = up_to_more (c.loop-node.node-index * 2 ^ 32) (2 ^ 62) c.loop-node.found
    (let less = c.loop-node-test.true in let few = c.requires in omega (arith, less, few)) c.loop-node.invariant.few

pub loop-node-preserved : goal.loop-node-preserved
loop-node-preserved c = record {
  found = c.with_node-found.ensures.found (open_packets c.args.packets (take c.loop-node.node-index c.args.nodes.now))
      c.loop-node.invariant.found
      ∙ ap (λ (l : List PacketId). open_of l) (sym (nodes_more c.args.packets c.args.nodes.now c.loop-node.node-index
      c.node-item.result c.loop-node-test.true c.node-item.is));
  few = up_to_more (c.loop-node.node-index * 2 ^ 32 + c.args.packets) ((c.loop-node.node-index + 1) * 2 ^ 32)
      c.with_node-found.result (let range = c.ranges.packets.fits in omega (arith, range))
      (c.with_node-found.ensures.few (c.loop-node.node-index * 2 ^ 32) c.loop-node.invariant.few);
}

pub returns : goal.returns
returns c = c.loop-node.invariant.found
    ∙ ap (λ (l : List NodeValue). open_of (open_packets c.args.packets l))
    (take_all c.loop-node.node-index c.args.nodes.now (let over = c.loop-node-test.false in omega (arith, over)))
