use Rattle.replay_world.proofs.replay.Replay.sum_all.Goals as goal

pub returns : goal.returns
returns c = λ v stands.
    let gateways = c.in_ok-gateways.ensures v stands in
    (gateways.0, λ i. record { nodes = (c.sum_nodes-nodes.ensures v gateways.0) i; gateways = gateways.1 i })
