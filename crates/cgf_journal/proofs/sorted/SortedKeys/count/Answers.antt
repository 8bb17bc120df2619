use Rattle.std.proofs.Common.{rules}
use Rattle.cgf_journal.proofs.KeysLemmas.{counted_le}
use Rattle.cgf_journal.proofs.sorted.SortedKeys.count.Goals as goal

pub returns-then-firm-clause-small : goal.returns-then-firm-clause-small
returns-then-firm-clause-small c = search (rules, counted_le)

pub returns-else-firm-clause-small : goal.returns-else-firm-clause-small
returns-else-firm-clause-small c = search (rules, counted_le)
