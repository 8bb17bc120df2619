use Rattle.cgf_journal.proofs.Trails.{firm_count}
use Rattle.cgf_journal.proofs.trail.Trail.firm.Goals as goal

pub returns-clause-length : goal.returns-clause-length
returns-clause-length g c = λ told. firm_count c.args.self.now told
