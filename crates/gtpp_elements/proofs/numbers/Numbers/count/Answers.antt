use Rattle.gtpp_elements.proofs.NumberLemmas.{count_of_numbers}
use Rattle.gtpp_elements.proofs.numbers.Numbers.count.Goals as goal

pub returns : goal.returns
returns c = count_of_numbers _ _ c.self.invariant c.self.view_is
