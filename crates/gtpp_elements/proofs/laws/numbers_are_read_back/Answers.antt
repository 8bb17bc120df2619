use Rattle.gtpp_elements.proofs.NumberLemmas.{length_of_octets, numbers_again}
use Rattle.gtpp_elements.proofs.laws.numbers_are_read_back.Goals as goal

pub returns : goal.returns
returns c = record { again = numbers_again; length = length_of_octets }
