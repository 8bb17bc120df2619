use Rattle.once_core.proofs.WorldOnceLemmas.{was_submitted}
use Rattle.once_core.proofs.told_laws.what_is_filed_was_submitted.Goals as goal

pub returns : goal.returns
returns c = λ w place filing reached. was_submitted (assumption) w reached place filing
