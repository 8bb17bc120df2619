use Rattle.std.proofs.Common.{◌++◌, ap, ◌∙◌, List}
use Rattle.once_core.proofs.Names.{Gateway, HistoryEntry, known_nodes, NodeId, redirected_kept}
use Rattle.once_core.proofs.RedirectLemmas.{all_of, redirects_end, redirects_more}
use Rattle.once_core.proofs.gateway.KeptGateway.redirect.Goals as goal
use Rattle.once_core.proofs.GatewayTurnLemmas.{stored}

pub loop-node-preserved : goal.loop-node-preserved
loop-node-preserved c =
    let none : NodeId = record { 0 = 0 } in
    let all : List NodeId = c.deref-node-items.result.now in
    redirects_more c.args.gateway c.args.cause c.args.to c.args.self.now all c.loop-node.node-index none
    c.loop-node.sends.items c.redirect_one.new.sends.items (c.args.sends.now.items ++ all_of c.args.gateway c.args.cause c.args.to c.args.self.now all)
    c.loop-node-test.true c.loop-node.invariant c.in_ok-redirect_one.ensures

pub returns : goal.returns
returns c = record {
  gateway = ap (λ (g : Gateway). (redirected_kept c.args.gateway c.args.cause c.args.to g).gateway) c.self.view_is;
  sends =
      redirects_end c.args.gateway c.args.cause c.args.to c.args.self.now c.deref-node-items.result.now c.loop-node.node-index c.loop-node.sends.items
      _ c.loop-node-test.false c.loop-node.invariant
      ∙ ap (λ (nodes : List NodeId). c.args.sends.now.items ++ all_of c.args.gateway c.args.cause c.args.to c.args.self.now nodes)
      (c.deref-node-items.ensures.value ∙ (c.in_ok-nodes.ensures ∙ ap (λ (h : List HistoryEntry). known_nodes h)
      (stored c.self.inside c.self.view_is c.deref.ensures.value)));
}
