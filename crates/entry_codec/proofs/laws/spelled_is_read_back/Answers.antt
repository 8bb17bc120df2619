use Rattle.entry_codec.proofs.Entries.{entry_part}
use Rattle.entry_codec.proofs.laws.spelled_is_read_back.Goals as goal

pub returns : goal.returns
returns c = λ e more fits. entry_part.again e more fits
