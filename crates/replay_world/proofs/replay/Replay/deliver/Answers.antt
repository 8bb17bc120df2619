use Rattle.replay_world.proofs.replay.Replay.deliver.Goals as goal

pub returns-in-Some-Gateway : goal.returns-in-Some-Gateway
returns-in-Some-Gateway c = λ v stands none.
    let there = c.pass.ensures v stands in
    let to = rw c.in-Some-Gateway.field-0-is at (c.in-Some-Gateway.ensures v there none) in
    c.deliver_to_gateway.ensures v there to

pub returns-in-None : goal.returns-in-None
returns-in-None c = λ v stands none. absurd (c.in-None.ensures v (c.pass.ensures v stands) none)
