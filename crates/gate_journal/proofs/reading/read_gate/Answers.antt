use Rattle.std.proofs.Common.{rules}
use Rattle.gate_journal.proofs.Names.{kept_trans, runs_on}
use Rattle.gate_journal.proofs.Turns.{other_bool}
use Rattle.gate_journal.proofs.reading.read_gate.Goals as goal

pub returns-clause-reads : goal.returns-clause-reads
returns-clause-reads g c = λ told. search rules

pub returns-clause-kept : goal.returns-clause-kept
returns-clause-kept g c = kept_trans g.A.Area _ c.octet_at.new.area _ c.in_ok-gate.ensures.kept c.in_ok-length.ensures.kept

pub returns-in_err-length-clause-runs : goal.returns-in_err-length-clause-runs
returns-in_err-length-clause-runs g c = λ told runs. absurd (other_bool (c.in_err-length.ensures.runs told (runs_on _ _ (c.in_ok-gate.ensures.kept.planned told) runs)))
