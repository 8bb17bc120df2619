use Rattle.std.proofs.Common.{[], ◌++◌, List, ℕ, ap}
use Rattle.entry_codec.proofs.Entries.{entry_part}
use Rattle.entry_codec.proofs.Parts.{same_first}
use Rattle.entry_codec.proofs.laws.spellings_differ.Goals as goal

pub returns : goal.returns
returns c = λ a b fa fb e. (same_first entry_part a b [] [] fa fb (ap (λ (o : List ℕ). o ++ []) e)).0
