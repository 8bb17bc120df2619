use Rattle.cgf_service.proofs.ConnectionLemmas.{ends_within}
use Rattle.cgf_service.proofs.connection.Connection.end.Goals as goal

pub returns-then-self-clause-ended : goal.returns-then-self-clause-ended
returns-then-self-clause-ended g c opened given sent goes below = ends_within g.A.Area opened given sent c.args.self.now goes c.if-self.true below
