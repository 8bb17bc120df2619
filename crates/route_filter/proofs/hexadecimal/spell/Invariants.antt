use Rattle.route_filter.proofs.HexadecimalLemmas.{IsSpelt}
use Rattle.route_filter.proofs.hexadecimal.spell.Given as goal

abbrev pub invariant-octets : goal.invariant-octets
invariant-octets l = IsSpelt l.digits l.octets l.k
