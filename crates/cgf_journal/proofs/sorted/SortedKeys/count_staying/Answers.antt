use Rattle.std.proofs.Common.{rules}
use Rattle.cgf_journal.proofs.KeptLemmas.{length-staying}
use Rattle.cgf_journal.proofs.sorted.SortedKeys.count_staying.Goals as goal

pub returns-in-None-clause-value : goal.returns-in-None-clause-value
returns-in-None-clause-value c = search (rules, length-staying)
