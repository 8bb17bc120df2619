use Rattle.std.proofs.Common.{refl}
use Rattle.trials.proofs.book_worked.a_changed_counter_opens_an_epoch.Goals as goal

pub returns-clause-numbers : goal.returns-clause-numbers
returns-clause-numbers c = refl

pub returns-clause-entries : goal.returns-clause-entries
returns-clause-entries c = refl
