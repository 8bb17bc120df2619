use Rattle.entry_codec.specs.Laws.{more_entries}
use Rattle.entry_codec.proofs.laws.entries_go_on.Goals as goal

pub returns : goal.returns
returns c = λ a b h g front back. more_entries a b h g front back
