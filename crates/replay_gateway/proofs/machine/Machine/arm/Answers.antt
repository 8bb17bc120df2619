use Rattle.replay_gateway.proofs.machine.Machine.arm.Goals as goal

pub returns-in-Some : goal.returns-in-Some
returns-in-Some c = λ setup place g m armed arms runs stands.
    let site = c.arm.ensures setup place g m armed arms runs (rw c.in-Some.is at stands.site) in
    assumption
