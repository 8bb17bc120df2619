use Rattle.entry_codec.proofs.Contents.{entries_of_entries}
use Rattle.entry_codec.proofs.laws.entries_are_unique.Goals as goal
use Rattle.std.proofs.Common.{sym, ◌∙◌}

pub returns : goal.returns
returns c = λ octets h g one other. sym (entries_of_entries octets h one) ∙ entries_of_entries octets g other
