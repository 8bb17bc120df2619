use Rattle.std.proofs.Common.{◌≡◌, ◌++◌, drop}
use Rattle.once_core.proofs.RedirectLemmas.{all_of}
use Rattle.once_core.proofs.gateway.KeptGateway.redirect.Given as goal

-- the requests so far, and those to the nodes that are left, are all
abbrev pub invariant-loop-node : goal.invariant-loop-node
invariant-loop-node l =
    l.sends.items ++ all_of l.gateway l.cause l.to l.fn.self (drop l.node-index l.node-items)
    ≡ l.initial.sends.items ++ all_of l.gateway l.cause l.to l.fn.self l.node-items
