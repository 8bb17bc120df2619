use Rattle.std.proofs.Common.{refl, sym, ◌∙◌}
use Rattle.loop_run.proofs.OpenLemmas.{open_any}
use Rattle.loop_run.proofs.ending.end_of.Goals as goal

pub returns-in-Some-clause-ends : goal.returns-in-Some-clause-ends
returns-in-Some-clause-ends c =
    let found = open_any _ c.in-Some.open (sym c.in-Some.is ∙ c.open_among.ensures) in (refl, found.0, found.1)
