use Rattle.std.proofs.Common.{refl, ◌+◌, ◌%◌}
use Rattle.replay_gateway.proofs.RedirectLemmas.{has_redirected}
use Rattle.replay_gateway.proofs.machine.Machine.redirect.Goals as goal

pub returns : goal.returns
returns c = λ setup g m stands runs near.
    has_redirected _ _ g m ((c.args.self.now.redirects + 1) % 65536) stands refl
    (c.in_ok-messages.ensures setup g m stands runs near)
