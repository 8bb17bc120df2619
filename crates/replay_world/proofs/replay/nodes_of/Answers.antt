use Rattle.std.proofs.Common.{◌≡◌, arith, ◌∙◌, ap, ◌++◌, ◌∷◌, []}
use Rattle.gw_base.specs.declared.address.NodeId.{NodeId}
use Rattle.replay_world.proofs.Names.{Began, node_ip, node_of}
use Rattle.replay_world.proofs.BeginningLemmas.{nodes_next}
use Rattle.replay_world.proofs.replay.nodes_of.Goals as goal

pub loop-place-preserved : goal.loop-place-preserved
loop-place-preserved c = λ gateways are.
    c.in_ok-push.ensures.items
    ∙ ap (λ n. c.loop-place.nodes.items ++ n ∷ [])
    (c.in_ok-node.ensures
    ∙ ap (λ (id : NodeId). node_of (record { address = id.0; gateways = c.args.addresses.now; counter = 1 }) (Began ∷ []))
    c.node_id.ensures
    ∙ ap (λ l. node_of (record { address = node_ip c.loop-place.place; gateways = l; counter = 1 }) (Began ∷ [])) are)
    ∙ nodes_next gateways c.loop-place.place (c.loop-place.invariant gateways are)

pub returns : goal.returns
returns c = λ gateways are.
    let whole : c.loop-place.place ≡ c.args.count = omega arith in
    cc (c.loop-place.invariant gateways are)
