use Rattle.std.proofs.Common.{refl, rules}
use Rattle.gate_journal.proofs.Seen.{verdict_from}
use Rattle.area_disk.specs.CourseLaws.{read_on, read_runs}
use Rattle.gate_journal.proofs.Plans.{sync_ran}
use Rattle.gate_journal.proofs.Turns.{other_bool}
use Rattle.gate_journal.proofs.reading.look.Goals as goal

pub returns-clause-verdict : goal.returns-clause-verdict
returns-clause-verdict g c = λ told. search (rules, verdict_from)

pub returns-in_err-read_at-clause-planned : goal.returns-in_err-read_at-clause-planned
returns-in_err-read_at-clause-planned g c = λ told.
    let read = c.in_err-read_at.ensures.planned told in
    sync_ran _ _ _ _ _ (c.in_ok-sync.ensures.planned told) refl (read_on _ _ _ read) (λ runs. absurd (other_bool (read_runs _ _ _ read runs)))
