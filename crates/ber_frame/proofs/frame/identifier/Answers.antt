use Rattle.ber_frame.proofs.Identifiers.{identifier_answers}
use Rattle.ber_frame.proofs.frame.identifier.Goals as goal

pub returns-clause-accepts : goal.returns-clause-accepts
returns-clause-accepts c = (identifier_answers c.args.octets.now c.whole_identifier.result c.whole_identifier.ensures).0

pub returns-clause-fails : goal.returns-clause-fails
returns-clause-fails c = (identifier_answers c.args.octets.now c.whole_identifier.result c.whole_identifier.ensures).1
