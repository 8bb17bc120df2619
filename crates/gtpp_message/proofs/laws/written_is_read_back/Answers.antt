use Rattle.gtpp_message.proofs.WrittenLemmas.{read_back}
use Rattle.gtpp_message.proofs.laws.written_is_read_back.Goals as goal

pub returns : goal.returns
returns c = λ number message rest sendable short.
    read_back c.written_is_read_back.ensures c.what_is_put_is_read_back.ensures c.numbers_are_read_back.ensures.again c.numbers_are_read_back.ensures.length number message rest sendable short
