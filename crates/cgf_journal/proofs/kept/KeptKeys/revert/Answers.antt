use Rattle.cgf_journal.proofs.KeptLemmas.{reverted_seen}
use Rattle.cgf_journal.proofs.kept.KeptKeys.revert.Goals as goal

pub returns : goal.returns
returns c =
    reverted_seen c.self.inside.early c.self.inside.late c.revert.new.self c.revert-2.new.self c.args.self.now c.self.view_is c.revert.ensures.firm c.revert.ensures.live c.revert-2.ensures.firm c.revert-2.ensures.live
    c.revert.ensures.count c.revert-2.ensures.count c.revert.ensures.reserved
