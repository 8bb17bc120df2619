use Rattle.gate_journal.proofs.States.{place_told}
use Rattle.gate_journal.proofs.journal.Journal.end.Goals as goal

pub returns-clause-told : goal.returns-clause-told
returns-clause-told g c = λ told.
    place_told g.A.Area c.area_laws.ensures c.args.self.now told
