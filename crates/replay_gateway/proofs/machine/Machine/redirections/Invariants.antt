use Rattle.replay_gateway.proofs.RedirectLemmas.{AskedSoFar}
use Rattle.replay_gateway.proofs.machine.Machine.redirections.Given as goal

-- the requests to the first so many nodes were made
abbrev pub invariant-loop-k : goal.invariant-loop-k
invariant-loop-k l = AskedSoFar l.place l.cause l.number l.to l.self.site l.k l.messages.items
