use Rattle.std.proofs.Common.{rules}
use Rattle.gate_journal.proofs.Seen.{length_read}
use Rattle.gate_journal.proofs.Names.{kept_read, read_on, read_runs}
use Rattle.gate_journal.proofs.Turns.{other_bool}
use Rattle.gate_journal.proofs.reading.length_behind.Goals as goal

pub returns-clause-length : goal.returns-clause-length
returns-clause-length g c = λ told. search (rules, length_read)

pub returns-clause-kept : goal.returns-clause-kept
returns-clause-kept g c = search (rules, kept_read, read_on)

pub returns-in_err-read_at-clause-runs : goal.returns-in_err-read_at-clause-runs
returns-in_err-read_at-clause-runs g c = λ told runs. absurd (other_bool (read_runs _ _ _ (c.in_err-read_at.ensures.planned told) runs))
