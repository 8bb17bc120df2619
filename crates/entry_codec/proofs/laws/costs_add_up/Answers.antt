use Rattle.entry_codec.specs.Laws.{costs_of-append}
use Rattle.entry_codec.proofs.laws.costs_add_up.Goals as goal

pub returns : goal.returns
returns c = λ h g. costs_of-append h g
