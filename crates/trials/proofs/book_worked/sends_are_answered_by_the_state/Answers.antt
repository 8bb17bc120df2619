use Rattle.std.proofs.Common.{refl}
use Rattle.trials.proofs.book_worked.sends_are_answered_by_the_state.Goals as goal

pub returns-clause-again : goal.returns-clause-again
returns-clause-again c = refl

pub returns-clause-tested : goal.returns-clause-tested
returns-clause-tested c = refl

pub returns-clause-then_tested : goal.returns-clause-then_tested
returns-clause-then_tested c = refl

pub returns-clause-around : goal.returns-clause-around
returns-clause-around c = refl
