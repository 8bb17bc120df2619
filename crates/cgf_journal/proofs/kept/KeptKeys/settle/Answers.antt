use Rattle.cgf_journal.proofs.KeptLemmas.{settled_within}
use Rattle.cgf_journal.proofs.kept.KeptKeys.settle.Goals as goal

pub returns-clause-within : goal.returns-clause-within
returns-clause-within c = settled_within c.self.inside.early c.self.inside.late c.args.self.now c.self.view_is
