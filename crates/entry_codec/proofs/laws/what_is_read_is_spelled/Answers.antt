use Rattle.entry_codec.proofs.Entries.{entry_part}
use Rattle.entry_codec.proofs.laws.what_is_read_is_spelled.Goals as goal

pub returns : goal.returns
returns c = λ octets e more small read. entry_part.takes octets e more small read
