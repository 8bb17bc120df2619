use Rattle.std.proofs.Common.{arith}
use Rattle.route_filter.proofs.HexadecimalLemmas.{spelt_all, spelt_more, spelt_not}
use Rattle.route_filter.proofs.hexadecimal.spell.Goals as goal

pub returns-in-None-clause-refused : goal.returns-in-None-clause-refused
returns-in-None-clause-refused c e = search (arith, spelt_not, c.in-None.ensures)

pub octets-preserved : goal.octets-preserved
octets-preserved c = search (arith, spelt_more, c.in-Some.ensures)

pub returns-clause-spelt : goal.returns-clause-spelt
returns-clause-spelt c e = spelt_all c.args.digits.now c.octets.octets c.octets.k (omega arith) (omega arith) c.octets.invariant
