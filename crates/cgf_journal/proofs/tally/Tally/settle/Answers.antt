use Rattle.cgf_journal.proofs.KeptLemmas.{paid_settled}
use Rattle.cgf_journal.proofs.tally.Tally.settle.Goals as goal

pub invariant_of-self : goal.invariant_of-self
invariant_of-self c = paid_settled c.self.inside.keys c.settle.new.self c.self.inside.firm c.self.inside.live c.self.invariant c.settle.ensures.value c.settle.ensures.within
