use Rattle.std.proofs.Common.{refl, rules}
use Rattle.gate_journal.specs.Journal.{batches}
use Rattle.gate_journal.proofs.States.{settled, closed_when_ready}
use Rattle.gate_journal.proofs.journal.Journal.over.Goals as goal

pub returns-clause-batches : goal.returns-clause-batches
unfolding batches
returns-clause-batches g c = refl

pub returns-clause-settled : goal.returns-clause-settled
returns-clause-settled g c = search (rules, settled, closed_when_ready)
