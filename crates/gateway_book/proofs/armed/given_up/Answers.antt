use Rattle.std.proofs.Common.{◌&&◌, if◌then◌else◌, ◌++◌, subst, sym}
use Rattle.gate_journal.specs.Planned.{is_new}
use Rattle.gateway_book.specs.Opened.{StandsFitFor}
use Rattle.gateway_book.specs.Up.{HoldsHistory}
use Rattle.gateway_book.proofs.armed.given_up.Goals as goal

pub returns-clause-cut : goal.returns-clause-cut
returns-clause-cut g c = λ told fate header h cut.
    subst (λ area. HoldsHistory g.A.Area header h area) (sym c.into_area.ensures.area) (c.what_a_gateway_leaves.ensures.cut told fate header c.args.book h c.into_area.ensures.leaves cut)

pub returns-clause-stop : goal.returns-clause-stop
returns-clause-stop g c = λ told fate header v armed at_last up outcome.
    subst (λ area. StandsFitFor header ((g.A.Area.fate area).leaves outcome) (if v.is_broken && (at_last && is_new outcome) then v.firm ++ v.rest else v.firm)) (sym c.into_area.ensures.area)
    (c.what_a_gateway_leaves.ensures.stop told fate header c.args.book v armed at_last c.into_area.ensures.leaves up outcome)
