use Rattle.std.proofs.Common.{refl}
use Rattle.trials.proofs.book_worked.held_packets_are_released_once.Goals as goal

pub returns-clause-causes : goal.returns-clause-causes
returns-clause-causes c = refl

pub returns-clause-filed : goal.returns-clause-filed
returns-clause-filed c = refl

pub returns-clause-wrong : goal.returns-clause-wrong
returns-clause-wrong c = refl
