use Rattle.std.proofs.Common.{rules}
use Rattle.gateway_index.proofs.PairLemmas.{seen_behind, seen_there}
use Rattle.gateway_index.proofs.windows.state_at.Goals as goal

pub returns-then-place-pairs : goal.returns-then-place-pairs
returns-then-place-pairs c = search (rules, seen_there)

pub returns-else-place-pairs : goal.returns-else-place-pairs
returns-else-place-pairs c = search (rules, seen_behind)
