use Rattle.std.proofs.Common.{rules}
use Rattle.cgf_journal.proofs.KeptLemmas.{left_free}
use Rattle.cgf_journal.proofs.tally.Tally.free.Goals as goal

pub returns : goal.returns
returns c = search (rules, left_free)
