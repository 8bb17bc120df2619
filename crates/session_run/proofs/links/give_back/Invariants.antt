use Rattle.session_run.proofs.LinksLemmas.{AreGivenBack}
use Rattle.session_run.proofs.links.give_back.Given as goal

-- those that were given back stood behind those that are left
abbrev pub invariant-loop-link : goal.invariant-loop-link
invariant-loop-link g l =
    AreGivenBack g.L.Link.Link l.fn.address (g.L.Links.state l.initial.links) (g.L.Links.state l.links) l.initial.made.items l.made.items

abbrev pub decreases-loop-link : goal.decreases-loop-link
decreases-loop-link g l = goal.left-loop-link g l
