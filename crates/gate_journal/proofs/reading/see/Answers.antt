use Rattle.std.proofs.Common.{refl, rules}
use Rattle.gate_journal.proofs.Names.{follow, kept_leaves, read_on_trans, runs_on}
use Rattle.gate_journal.proofs.Plans.{sync_ran}
use Rattle.gate_journal.proofs.Turns.{other_bool}
use Rattle.gate_journal.proofs.reading.see.Goals as goal

pub returns-in_err-first-clause-any_moment : goal.returns-in_err-first-clause-any_moment
returns-in_err-first-clause-any_moment g c = search (rules, follow, kept_leaves)

pub returns-in_err-gate-clause-any_moment : goal.returns-in_err-gate-clause-any_moment
returns-in_err-gate-clause-any_moment g c = search (rules, follow, kept_leaves)

pub returns-clause-any_moment : goal.returns-clause-any_moment
returns-clause-any_moment g c = search (rules, follow, kept_leaves)

pub returns-in_err-first-clause-planned : goal.returns-in_err-first-clause-planned
returns-in_err-first-clause-planned g c = λ told.
    let read = c.in_err-first.ensures in
    sync_ran _ _ _ _ _ (c.in_ok-sync.ensures.planned told) refl (read.kept.planned told) (λ runs. absurd (other_bool (read.runs told runs)))

pub returns-in_err-gate-clause-planned : goal.returns-in_err-gate-clause-planned
returns-in_err-gate-clause-planned g c = λ told.
    let one = c.in_ok-first.ensures.kept.planned told in
    let two = c.in_err-gate.ensures in
    sync_ran _ _ _ _ _ (c.in_ok-sync.ensures.planned told) refl (read_on_trans _ _ _ one (two.kept.planned told)) (λ runs. absurd (other_bool (two.runs told (runs_on _ _ one runs))))
