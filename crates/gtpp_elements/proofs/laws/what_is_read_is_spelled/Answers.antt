use Rattle.gtpp_elements.proofs.SpellingLemmas.{elements_again, spelled_elements}
use Rattle.gtpp_elements.proofs.laws.what_is_read_is_spelled.Goals as goal

pub returns : goal.returns
returns c = λ elements body. (spelled_elements body elements, elements_again body elements body)
