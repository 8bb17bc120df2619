use Rattle.std.proofs.Common.{ℕ, OnOk, subst}
use Rattle.file_writer.specs.Advancing.{HasRecovered}
use Rattle.file_writer.proofs.LeavingLemmas.{zeros_at}
use Rattle.file_writer.proofs.writer.Writer.recover.Goals as goal

pub returns-clause-recovered : goal.returns-clause-recovered
returns-clause-recovered g c =
    subst (λ (closed : ℕ → ℕ). OnOk c.recover_from.result
    (HasRecovered g.F.Shelf closed 0 c.args.self.now c.recover_from.new.self)) (λ i s. zeros_at 16 s i)
    c.recover_from.ensures.recovered
