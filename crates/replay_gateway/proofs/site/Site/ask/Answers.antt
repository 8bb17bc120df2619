use Rattle.replay_gateway.proofs.site.Site.ask.Goals as goal

pub returns-in-Up : goal.returns-in-Up
returns-in-Up c = λ setup place g m runs stands. c.ask.ensures setup place g m (rw c.in-Up.is at stands)
