use Rattle.std.proofs.Common.{true≢false}
use Rattle.gateway_index.proofs.window_pair.WindowPair.clear.Goals as goal

pub invariant_of-self : goal.invariant_of-self
invariant_of-self c = record { agree = λ e. absurd (true≢false e) }
