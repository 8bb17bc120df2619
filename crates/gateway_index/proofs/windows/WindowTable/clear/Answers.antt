use Rattle.std.proofs.Common.{rules}
use Rattle.gateway_index.proofs.PairLemmas.{same_after}
use Rattle.gateway_index.proofs.windows.WindowTable.clear.Goals as goal

pub invariant_of-self : goal.invariant_of-self
invariant_of-self c = search (rules, same_after)
