use Rattle.gate_journal.specs.Format.{header}
use Rattle.cgf_journal.proofs.Meanings.{always_fit, foreign_unfit}
use Rattle.cgf_journal.proofs.Opened.{err_always, ok_always}
use Rattle.cgf_journal.proofs.trail.Trail.open_at.Goals as goal

pub returns-clause-ok : goal.returns-clause-ok
returns-clause-ok g c = ok_always (header (g.A.Area.size c.args.area) c.args.address c.args.generation) c.args.area _ (λ size before e. tt) c.open_judged.result c.open_judged.ensures.ok

pub returns-clause-err : goal.returns-clause-err
returns-clause-err g c = err_always (header (g.A.Area.size c.args.area) c.args.address c.args.generation) c.args.area _ (λ size before e. tt) c.open_judged.result c.open_judged.ensures.err

pub returns-clause-reads : goal.returns-clause-reads
returns-clause-reads g c = λ told h stands.
    c.open_judged.ensures.reads told h (always_fit _ (λ size before e. tt) (header (g.A.Area.size c.args.area) c.args.address c.args.generation) (g.A.Area.octets c.args.area) h stands)

pub returns-clause-foreign : goal.returns-clause-foreign
returns-clause-foreign g c = λ told at foreign.
    c.open_judged.ensures.foreign told at (foreign_unfit _ (λ size before e. tt) (header (g.A.Area.size c.args.area) c.args.address c.args.generation) (g.A.Area.octets c.args.area) at foreign)
