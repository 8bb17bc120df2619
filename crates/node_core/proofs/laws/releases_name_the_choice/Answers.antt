use Rattle.node_core.proofs.DueLemmas.{release_is_of_choice}
use Rattle.node_core.proofs.laws.releases_name_the_choice.Goals as goal

pub returns : goal.returns
returns c = release_is_of_choice
