use Rattle.gtpp_message.proofs.SpelledLemmas.{read_spelled}
use Rattle.gtpp_message.proofs.laws.what_is_read_is_spelled.Goals as goal

pub returns : goal.returns
returns c = λ number message octets. read_spelled c.what_is_read_is_spelled.ensures c.what_is_read_is_spelled-2.ensures number message octets
