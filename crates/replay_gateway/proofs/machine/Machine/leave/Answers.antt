use Rattle.replay_gateway.proofs.machine.Machine.leave.Goals as goal

pub returns-clause-files : goal.returns-clause-files
returns-clause-files c = λ settings f items stands.
    c.end.ensures settings f.sealed items stands.writes.is_armed.running stands.writes.holds
