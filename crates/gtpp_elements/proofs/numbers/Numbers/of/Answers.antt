use Rattle.std.proofs.Common.{arith}
use Rattle.gtpp_elements.proofs.NumberLemmas.{octets_again}
use Rattle.gtpp_elements.proofs.numbers.Numbers.of.Goals as goal

pub invariant_of-result : goal.invariant_of-result
invariant_of-result c = octets_again c.args.value.now (λ k. omega (arith, c.type_inv.value k)) (omega arith)

pub returns-clause-octets : goal.returns-clause-octets
returns-clause-octets c = octets_again c.args.value.now (λ k. omega (arith, c.type_inv.value k)) (omega arith)
