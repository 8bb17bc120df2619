use Rattle.gtpp_message.proofs.SpelledLemmas.{sendable_read}
use Rattle.gtpp_message.proofs.laws.what_is_read_may_be_sent.Goals as goal

pub returns : goal.returns
returns c = λ number message octets. sendable_read number message octets
