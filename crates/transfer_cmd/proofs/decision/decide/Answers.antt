-- The row that is found is the one for the ask at the state.
use Rattle.std.proofs.Common.{ap}
use Rattle.case_table.specs.declared.Row.{Row}
use Rattle.transfer_cmd.proofs.Rows.{row_found}
use Rattle.transfer_cmd.proofs.decision.decide.Goals as goal

pub returns-clause-cause : goal.returns-clause-cause
returns-clause-cause c =
    ap (λ (row : Row). row.value)
    (row_found c.args.ask c.args.state _ _ _ c.answers.ensures.rows c.in-Some.ensures.first c.place.ensures)
