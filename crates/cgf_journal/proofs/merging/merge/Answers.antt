use Rattle.std.proofs.Common.{rules}
use Rattle.cgf_journal.proofs.MergedLemmas.{left_over}
use Rattle.cgf_journal.proofs.merging.merge.Goals as goal

pub returns-clause-ok : goal.returns-clause-ok
returns-clause-ok c = search (rules, left_over)
