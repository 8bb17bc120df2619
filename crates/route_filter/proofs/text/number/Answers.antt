use Rattle.std.proofs.Common.{arith}
use Rattle.std.proofs.lemmas.Bool.Decides.{nat_tests}
use Rattle.route_filter.proofs.Digits.{ended, refused, taken}
use Rattle.route_filter.proofs.text.number.Goals as goal

pub returns-in_default : goal.returns-in_default
returns-in_default c = search (arith, refused)

pub loop-octet-preserved : goal.loop-octet-preserved
loop-octet-preserved c = search (arith, taken)

pub returns-then-value-most : goal.returns-then-value-most
returns-then-value-most c = search (arith, nat_tests, ended)

pub returns-else-value-most : goal.returns-else-value-most
returns-else-value-most c = search (arith, nat_tests, ended)
