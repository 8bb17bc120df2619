use Rattle.cgf_journal.proofs.KeptLemmas.{counted_both}
use Rattle.cgf_journal.proofs.kept.KeptKeys.count.Goals as goal

pub returns : goal.returns
returns c = counted_both c.args.firm c.self.inside.early c.self.inside.late c.args.self.now c.count.result c.count-2.result c.self.view_is c.count.ensures.value c.count-2.ensures.value
