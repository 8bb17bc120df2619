use Rattle.entry_codec.specs.Laws.{costs_of-spelled}
use Rattle.entry_codec.proofs.laws.costs_are_octets_and_five_each.Goals as goal

pub returns : goal.returns
returns c = λ h. costs_of-spelled h
