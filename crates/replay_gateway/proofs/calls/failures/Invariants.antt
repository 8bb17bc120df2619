use Rattle.std.proofs.Common.{◌≡◌, filter, map}
use Rattle.once_core.specs.Messages.{failing, is_response}
use Rattle.replay_gateway.proofs.calls.failures.Given as goal

-- the messages of the answers so far were made
abbrev pub invariant-loop-w : goal.invariant-loop-w
invariant-loop-w l =
    l.messages.items ≡ map (λ w. failing w.message) (filter (λ w. is_response w.message) l.yielded)
