use Rattle.gateway_index.proofs.window_pair.follow.Goals as goal

pub loop-step-preserved : goal.loop-step-preserved
loop-step-preserved c =
    let all = rw c.in-Some.ensures.cases.0 at c.loop-step.invariant in
    rw c.set.ensures (all.0.1, all.1)
