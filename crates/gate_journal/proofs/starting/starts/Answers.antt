use Rattle.std.proofs.Common.{rules}
use Rattle.gate_journal.proofs.Names.{first-header, length-header, same_not_starts}
use Rattle.gate_journal.proofs.Turns.{other_bool}
use Rattle.gate_journal.proofs.starting.starts.Goals as goal

pub returns-in-Ok-Same-clause-starts : goal.returns-in-Ok-Same-clause-starts
returns-in-Ok-Same-clause-starts g c = λ told. search (rules, same_not_starts, length-header, first-header, other_bool)
