use Rattle.std.proofs.Common.{arith}
use Rattle.gtpp_elements.proofs.NumberLemmas.{number_is, number_within}
use Rattle.gtpp_elements.proofs.numbers.Numbers.at.Goals as goal

pub overflow_mul-k : goal.overflow_mul-k
overflow_mul-k c = omega (arith, number_within _ _ _ c.self.invariant c.self.view_is c.requires, c.self.told)

pub bounds-octets-k : goal.bounds-octets-k
bounds-octets-k c = omega (arith, number_within _ _ _ c.self.invariant c.self.view_is c.requires)

pub overflow_mul-k-2 : goal.overflow_mul-k-2
overflow_mul-k-2 c = omega (arith, number_within _ _ _ c.self.invariant c.self.view_is c.requires, c.self.told)

pub overflow_add-k : goal.overflow_add-k
overflow_add-k c = omega (arith, number_within _ _ _ c.self.invariant c.self.view_is c.requires, c.self.told)

pub bounds-octets-k-2 : goal.bounds-octets-k-2
bounds-octets-k-2 c = number_within _ _ _ c.self.invariant c.self.view_is c.requires

pub returns : goal.returns
returns c = number_is _ _ _ _ c.self.view_is c.requires c.read_u16.ensures
