use Rattle.cdr_file.proofs.SpellingLemmas.{read_spells, spelled_again}
use Rattle.cdr_file.proofs.laws.what_is_read_is_spelled.Goals as goal

pub returns : goal.returns
returns c = λ octets file fit. (read_spells octets file fit, spelled_again file octets)
