use Rattle.turn_cell.specs.Cell.{knowledge}
use Rattle.node_session.proofs.serving.serve.Goals as goal

pub returns-clause-served : goal.returns-clause-served
returns-clause-served g c = record {
  outcome = c.take-outcome.result.0;
  taken = knowledge c.take-outcome.result.1;
  first = c.take-outcome.ensures.takes;
  goes_on = c.go_on.ensures.goes;
}
