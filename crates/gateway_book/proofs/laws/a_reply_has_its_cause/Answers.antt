use Rattle.std.proofs.Common.{◌≡◌, ℕ, refl}
use Rattle.gateway_book.proofs.Names.{cause_in, cause_of, EchoRequest, MessageValue, written}
use Rattle.gateway_book.proofs.laws.a_reply_has_its_cause.Goals as goal

by_message : (number : ℕ) (message : MessageValue) → cause_in (written number message) ≡ cause_of message
by_message number EchoRequest = refl
by_message number _ = refl

pub returns : goal.returns
returns c = λ number message. by_message number message
