use Rattle.replay_gateway.proofs.machine.Machine.write.Goals as goal

pub returns-in-Some : goal.returns-in-Some
returns-in-Some c = λ setup place g m stands runs. c.write_on.ensures setup place g m stands runs

pub returns-in-None : goal.returns-in-None
returns-in-None c = λ setup place g m stands runs. c.write_anew.ensures setup place g m stands runs
