use Rattle.std.proofs.Common.{refl}
use Rattle.replay_gateway.proofs.machine.Machine.take_after.Goals as goal

pub returns : goal.returns
returns c = λ setup place g m stands runs whole. record {
  later = c.in_ok-later.later;
  taken = c.in_ok-later.ensures setup place g m stands runs whole;
  came = refl;
  messages = c.in_ok-messages.ensures;
  ending = refl;
}
