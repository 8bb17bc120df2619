use Rattle.std.proofs.Common.{ap}
use Rattle.turn_cell.specs.declared.knowing.Knowledge.{Knowledge}
use Rattle.turn_tests.proofs.marks.mark_once.Goals as goal

pub returns-clause-same : goal.returns-clause-same
returns-clause-same g c = ap (λ (k : Knowledge). k.number) c.with.ensures.took.kept
