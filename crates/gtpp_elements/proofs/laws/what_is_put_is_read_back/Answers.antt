use Rattle.gtpp_elements.specs.Elements.{octets_of}
use Rattle.gtpp_elements.proofs.SpellingLemmas.{elements_again, sent_elements}
use Rattle.gtpp_elements.proofs.laws.what_is_put_is_read_back.Goals as goal

pub returns : goal.returns
returns c = λ elements sendable. elements_again (octets_of elements) elements (octets_of elements) (sent_elements elements sendable)
