use Rattle.replay_gateway.proofs.site.Site.items.Goals as goal

pub returns-in-Up-clause-items : goal.returns-in-Up-clause-items
returns-in-Up-clause-items c = λ setup place g m runs stands.
    c.items_from.ensures.items setup place g m (rw c.in-Up.is at stands)
