use Rattle.std.proofs.Common.{rules}
use Rattle.gateway_index.proofs.PairLemmas.{seen_behind, seen_there}
use Rattle.gateway_index.proofs.windows.top_at.Goals as goal

pub returns-then-place-pairs-clause-value : goal.returns-then-place-pairs-clause-value
returns-then-place-pairs-clause-value c = search (rules, seen_there)

pub returns-else-place-pairs-clause-value : goal.returns-else-place-pairs-clause-value
returns-else-place-pairs-clause-value c = search (rules, seen_behind)
