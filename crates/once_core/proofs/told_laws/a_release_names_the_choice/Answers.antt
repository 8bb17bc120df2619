use Rattle.once_core.proofs.WorldOnceLemmas.{name_choices}
use Rattle.once_core.proofs.told_laws.a_release_names_the_choice.Goals as goal

pub returns : goal.returns
returns c = name_choices assumption
