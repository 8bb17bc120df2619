use Rattle.once_core.proofs.MeaningLemmas.{meaning_is}
use Rattle.once_core.proofs.shown_laws.what_is_sent_is_meant.Goals as goal

pub returns : goal.returns
returns c = λ m number message is sendable short.
    meaning_is c.written_is_read_back.ensures m number message (record { is = is; sendable = sendable; short = short })
