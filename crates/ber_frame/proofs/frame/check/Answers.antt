use Rattle.std.proofs.Common.{arith}
use Rattle.ber_frame.proofs.Octets.{are_octets}
use Rattle.ber_frame.proofs.Walks.{answers, walk_reads}
use Rattle.ber_frame.proofs.frame.check.Goals as goal

pub returns-clause-accepts : goal.returns-clause-accepts
returns-clause-accepts c =
    (answers c.args.octets.now c.walk_through.result (are_octets c.args.octets.now
    (λ i. omega (arith, c.type_inv.octets i))) c.walk_through.ensures).0

pub returns-clause-fails : goal.returns-clause-fails
returns-clause-fails c =
    (answers c.args.octets.now c.walk_through.result (are_octets c.args.octets.now
    (λ i. omega (arith, c.type_inv.octets i))) c.walk_through.ensures).1

pub returns-clause-reads : goal.returns-clause-reads
returns-clause-reads c = walk_reads c.args.octets.now c.walk_through.result (are_octets c.args.octets.now (λ i. omega (arith, c.type_inv.octets i))) c.walk_through.ensures
