use Rattle.std.proofs.Common.{arith}
use Rattle.gateway_answer.specs.ShortLaws.{below_at_each, prepared_is_short}
use Rattle.gateway_answer.proofs.preparing.is_short.Goals as goal

pub returns : goal.returns
returns c =
    prepared_is_short c.a_role_reads_what_is_read.ensures c.what_is_read_is_spelled.ensures c.args.octets.now
    (below_at_each c.args.octets.now (λ i. omega (arith, c.type_inv.octets i)))
