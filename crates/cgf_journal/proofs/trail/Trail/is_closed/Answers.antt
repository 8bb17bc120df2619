use Rattle.std.proofs.Common.{rules}
use Rattle.cgf_journal.proofs.Trails.{at_rest, settled, stop_is}
use Rattle.cgf_journal.proofs.trail.Trail.is_closed.Goals as goal

pub returns-clause-settled : goal.returns-clause-settled
returns-clause-settled g c = λ told is. search (rules, settled)

pub returns-clause-rests : goal.returns-clause-rests
returns-clause-rests g c = search (rules, at_rest)

pub returns-clause-stop : goal.returns-clause-stop
returns-clause-stop g c = λ fate told outcome. search (rules, stop_is)
